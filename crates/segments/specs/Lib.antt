-- What the functions ask of what they are lent (Lent), what the walks are by it (Timed), and what their loops keep: the choice, the walks, the delivery.
pub mod Lent
pub mod Timed
pub mod Choice
pub mod Walk
pub mod Delivery
