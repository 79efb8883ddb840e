use Rattle.std.proofs.Common.{◌≡◌, ◌∙◌, eqb, rules}
use Rattle.std.specs.List.{count_by}
use Rattle.marks.proofs.Counting.{count_marked}
use Rattle.marks.proofs.count_served.Goals as goal

pub returns : goal.returns
returns c =
    let by_marks : c.count.result ≡ count_by (λ x. eqb x 1) c.args.served.now = search rules in
    by_marks ∙ count_marked _
