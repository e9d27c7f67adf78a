use Rattle.std.proofs.Common.{◌≡◌, ◌<◌, length, rules, Some, Err, true, false, arith, sym, ap, ◌∙◌}
use Rattle.std.proofs.lemmas.Result.{err_from_is_err_and}
use Rattle.meaning.specs.Files.{node_of}
use Rattle.reading.specs.Marks.{is_marked}
use Rattle.reading.specs.Follows.{only_once}
use Rattle.reading.proofs.Steps.{Fitting, data_refused, data_fits, data_twice, data_on}
use Rattle.reading.proofs.Reader.add.Goals as goal
use Rattle.reading.proofs.Reader.add.Goals.{After-node_of-k}
use Rattle.reading.proofs.Reader.add.Given as given
use Prim.Native.Nat.{◌-◌}

-- behind the test for a fault: the entry has none, so that there is room for it
fit : (g : given.Over) (c : After-node_of-k g) → Fitting c.args.e c.args.self.now.count c.args.rows.now
fit g c =
    let counts : c.args.self.now.counts ≡ Some c.in_ok-counts.counts = grind arith in
    data_fits g.R.Row.row_of c.args.self.now c.args.rows.now c.args.e c.in_ok-counts.counts counts c.requires (sym c.data_fault.ensures ∙ c.in_ok-data_fault.was)

pub returns-in_err-data_fault : goal.returns-in_err-data_fault
returns-in_err-data_fault g c =
    let counts : c.args.self.now.counts ≡ Some c.in_ok-counts.counts = grind arith in
    let p = err_from_is_err_and c.from_residual-in_err-data_fault.result c.from_residual-in_err-data_fault.ensures.1 in
    data_refused g.R.Row.row_of c.args.self.now c.args.rows.now c.args.e c.in_ok-counts.counts counts p.0 (sym c.data_fault.ensures ∙ c.in_err-data_fault.was ∙ ap Err (sym p.2))
    c.from_residual-in_err-data_fault.result p.1 _ _

pub overflow_sub-k : goal.overflow_sub-k
overflow_sub-k g c = omega (arith, (fit g (goal.at.overflow_sub-k g c).After-node_of-k).low, c.node_of-k.ensures)

pub contains-requires : goal.contains-requires
contains-requires g c = omega (arith, fit g (goal.at.contains-requires g c).After-node_of-k, c.node_of-k.ensures)

pub returns-then-only_once : goal.returns-then-only_once
returns-then-only_once g c =
    let counts : c.args.self.now.counts ≡ Some c.in_ok-counts.counts = grind arith in
    let twice : only_once c.args.e (is_marked c.args.self.now.marks (node_of c.args.e - 1)) ≡ true = cc in
    data_twice g.R.Row.row_of c.args.self.now c.args.rows.now c.args.e c.in_ok-counts.counts counts c.requires (sym c.data_fault.ensures ∙ c.in_ok-data_fault.was) twice _ _

pub insert-requires : goal.insert-requires
insert-requires g c = omega (arith, fit g (goal.at.insert-requires g c).After-node_of-k, c.node_of-k.ensures)

pub of-requires : goal.of-requires
of-requires g c = (fit g (goal.at.of-requires g c).After-node_of-k).small

pub bounds-rows-self : goal.bounds-rows-self
bounds-rows-self g c = (fit g (goal.at.bounds-rows-self g c).After-node_of-k).inside

pub overflow_add-self : goal.overflow_add-self
overflow_add-self g c = record { fits = omega (arith, (fit g (goal.at.overflow_add-self g c).After-node_of-k).few) }

pub returns : goal.returns
returns g c =
    let counts : c.args.self.now.counts ≡ Some c.in_ok-counts.counts = grind arith in
    let once : only_once c.args.e (is_marked c.args.self.now.marks (node_of c.args.e - 1)) ≡ false = cc in
    rw c.of.ensures
    (data_on g.R.Row.row_of c.args.self.now c.args.rows.now c.args.e c.in_ok-counts.counts counts c.requires (sym c.data_fault.ensures ∙ c.in_ok-data_fault.was) once c.insert.new.self (rw c.node_of-k.ensures at c.insert.ensures))

pub offset_bounds-rows-self : goal.offset_bounds-rows-self
offset_bounds-rows-self g c =
    let inside : c.args.self.now.count < length c.args.rows.now = (fit g (goal.at.offset_bounds-rows-self g c).After-node_of-k).inside in
    search rules
