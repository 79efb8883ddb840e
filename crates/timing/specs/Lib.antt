-- What the contracts ask (Ready), what the loops keep (Sweep, Fill), and how far times go (Bounds).
pub mod Ready
pub mod Sweep
pub mod Fill
pub mod Bounds
