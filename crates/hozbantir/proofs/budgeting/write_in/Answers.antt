use Rattle.std.proofs.lemmas.Result.{err_from_is_err_and}
use Rattle.hozbantir.proofs.BudgetingLaws.{result_short, result_done}
use Rattle.hozbantir.proofs.budgeting.write_in.Goals as goal

pub returns-in_err-check_room : goal.returns-in_err-check_room
returns-in_err-check_room c =
    let a = c.args in
    let p = err_from_is_err_and c.from_residual.result c.from_residual.ensures.1 in
    let q = c.in_err-check_room.ensures.short in
    rw (p.1, p.2, q.1) (result_short _ _ _ a.served.now a.bases.now a.finals.now a.out.now c.needed_bytes-bytes.ensures q.0)

pub returns : goal.returns
returns c = let a = c.args in result_done _ _ _ a.served.now a.bases.now a.finals.now a.out.now c.needed_bytes-bytes.ensures c.in_ok-check_room.ensures.fits c.increments_in.ensures c.write.ensures
