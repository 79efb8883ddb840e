use Rattle.std.proofs.Common.{◌∙◌, sym, arith, length-take-le}
use Rattle.std.proofs.lemmas.Result.{err_from_is_err_and}
use Rattle.netlists.specs.JudgeLaws.{read_refused, read_few, read_fewer, read_from, read_to, read_parts, read_faulty, read_sound}
use Rattle.netlists.proofs.Decoded.read.Goals as goal

pub returns-in_err-extent : goal.returns-in_err-extent
returns-in_err-extent c =
    let p = err_from_is_err_and c.from_residual.result c.from_residual.ensures.1 in
    rw (p.1, p.2) (read_refused c.in_err-extent.ensures)

pub circuit-requires : goal.circuit-requires
circuit-requires c = (read_few c.in_ok-extent.ensures, read_fewer c.in_ok-extent.ensures)

pub slice_bounds-fault_of-end : goal.slice_bounds-fault_of-end
slice_bounds-fault_of-end c = omega (arith, read_few c.in_ok-extent.ensures)

pub slice_bounds-fault_of-end-2 : goal.slice_bounds-fault_of-end-2
slice_bounds-fault_of-end-2 c =
    let e = c.in_ok-extent.extent in
    sym (length-take-le e.components c.args.met.now (omega (arith, read_few c.in_ok-extent.ensures)))

pub fault_of-requires-clause-met_len : goal.fault_of-requires-clause-met_len
fault_of-requires-clause-met_len c =
    let e = c.in_ok-extent.extent in
    length-take-le e.components c.args.met.now (omega (arith, read_few c.in_ok-extent.ensures)) ∙ sym (read_parts c.in_ok-extent.ensures c.circuit.ensures)

pub fault_of-requires-clause-below : goal.fault_of-requires-clause-below
fault_of-requires-clause-below c = (read_from c.in_ok-extent.ensures c.circuit.ensures, read_to c.in_ok-extent.ensures c.circuit.ensures)

pub returns-in-Some : goal.returns-in-Some
returns-in-Some c = read_faulty c.in_ok-extent.ensures c.circuit.ensures c.fault_of.ensures c.in-Some.is

pub returns-in-None : goal.returns-in-None
returns-in-None c = read_sound c.in_ok-extent.ensures c.circuit.ensures c.fault_of.ensures c.in-None.is
