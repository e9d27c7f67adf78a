use Rattle.std.proofs.Common.{◌≡◌, ◌+◌, arith, rules}
use Rattle.meaning.specs.Limits.{refusal}
use Rattle.std.proofs.lemmas.Result.{err_from_is_err_and}
use Rattle.reading.proofs.Lines.{judged_start, passes, fails, judged_stop, judged_up, judged_on, judged_end, judged_rows}
use Rattle.reading.proofs.judge.Goals as goal

pub loop-reader-init : goal.loop-reader-init
loop-reader-init g c = judged_start g.R.Row.row_of c.args.rules c.args.text.now c.args.rows.now c.new-reader.result c.new-reader.ensures

pub loop-reader-smaller : goal.loop-reader-smaller
loop-reader-smaller g c =
    let fine = passes c.next_line.result c.map_err.result c.map_err.ensures.variant c.in_ok-map_err.was in
    omega (arith, judged_up c.loop-reader.invariant c.loop-reader-test.true c.next_line.result c.next_line.new.self c.next_line.new.rows c.next_line.ensures fine, c.loop-reader-test.true)

pub loop-reader-preserved : goal.loop-reader-preserved
loop-reader-preserved g c =
    let fine = passes c.next_line.result c.map_err.result c.map_err.ensures.variant c.in_ok-map_err.was in
    judged_on c.loop-reader.invariant c.loop-reader-test.true c.next_line.result c.next_line.new.self c.next_line.new.rows c.next_line.ensures fine c.next_line.auto.rows

pub returns-in_err-map_err-clause-rows_read : goal.returns-in_err-map_err-clause-rows_read
returns-in_err-map_err-clause-rows_read g c =
    let f = fails c.next_line.result c.map_err.result _ c.map_err.ensures.cases c.in_err-map_err.field-0.0 c.in_err-map_err.was in
    rw (judged_stop c.loop-reader.invariant c.loop-reader-test.true c.next_line.result c.next_line.new.self c.next_line.new.rows c.next_line.ensures f.0 f.1) tt

pub returns-in_err-map_err-clause-value : goal.returns-in_err-map_err-clause-value
returns-in_err-map_err-clause-value g c =
    let f = fails c.next_line.result c.map_err.result _ c.map_err.ensures.cases c.in_err-map_err.field-0.0 c.in_err-map_err.was in
    let p = err_from_is_err_and c.from_residual.result c.from_residual.ensures.1 in
    let placed : c.in_err-map_err.field-0.0 ≡ refusal f.0 (c.loop-reader.place + 1) = search rules in
    rw (p.1, p.2, placed, judged_stop c.loop-reader.invariant c.loop-reader-test.true c.next_line.result c.next_line.new.self c.next_line.new.rows c.next_line.ensures f.0 f.1)

pub returns-clause-rows_read : goal.returns-clause-rows_read
returns-clause-rows_read g c =
    rw (judged_end c.loop-reader.invariant (omega arith))
    (judged_rows c.loop-reader.invariant)
