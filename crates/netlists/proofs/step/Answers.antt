use Rattle.std.proofs.Common.{◌∙◌, sym, arith}
use Rattle.std.proofs.lemmas.Result.{err_from_is_err_and}
use Rattle.records.specs.RecordLaws.{whole as record_whole}
use Rattle.netlists.specs.ReadLaws.{step_broken, step_ends, step_goes, step_refused}
use Rattle.netlists.proofs.step.Goals as goal

pub contents-p-requires : goal.contents-p-requires
contents-p-requires c = let o = c.in-Ok-Some in let w = record_whole _ _ (sym c.next.ensures ∙ rw o.field-0-is at o.is) in omega (arith, w.fits)

pub returns-in_err-on_record-in-Ok-Some : goal.returns-in_err-on_record-in-Ok-Some
returns-in_err-on_record-in-Ok-Some c =
    let p = err_from_is_err_and c.from_residual.result c.from_residual.ensures.1 in
    let o = c.in-Ok-Some in
    rw (p.1, p.2) (step_refused (rw (c.new-reader.ensures.0, c.new-reader.ensures.1) at c.next.ensures) (rw o.field-0-is at o.is) (rw c.new-reader.ensures.0 at c.contents-p.ensures) c.on_record.ensures c.in_err-on_record-in-Ok-Some.was)

pub returns-in_ok-on_record-in-Ok-Some : goal.returns-in_ok-on_record-in-Ok-Some
returns-in_ok-on_record-in-Ok-Some c =
    let o = c.in-Ok-Some in
    step_goes (rw (c.new-reader.ensures.0, c.new-reader.ensures.1) at c.next.ensures) (rw o.field-0-is at o.is) (rw c.new-reader.ensures.0 at c.contents-p.ensures) c.on_record.ensures c.in_ok-on_record-in-Ok-Some.was

pub returns-in-Ok-None : goal.returns-in-Ok-None
returns-in-Ok-None c = let o = c.in-Ok-None in step_ends (rw (c.new-reader.ensures.0, c.new-reader.ensures.1) at c.next.ensures) (rw o.field-0-is at o.is)

pub returns-in-Err : goal.returns-in-Err
returns-in-Err c = step_broken (rw (c.new-reader.ensures.0, c.new-reader.ensures.1) at c.next.ensures) c.in-Err.is
