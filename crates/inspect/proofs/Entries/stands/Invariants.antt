use mathlib.Core.Path.{◌≡◌}
use mathlib.Core.Bool.{false}
use Prim.Native.Nat.{◌-◌, ◌≤◌}
use Rattle.std.proofs.Common.{Ok}
use Rattle.meaning.specs.Limits.{base}
use Rattle.meaning.specs.Region.{tables_of}
use Rattle.meaning.specs.Checks.{first_fault, site_fault}
use Rattle.inspect.proofs.Sites.{among}
use Rattle.inspect.proofs.Entries.stands.Given as goal

abbrev pub invariant-loop-i : goal.invariant-loop-i
invariant-loop-i l = among l.self.tables.sites.now l.number l.i ≡ false

abbrev pub invariant-entries : goal.invariant-entries
invariant-entries l = (l.j ≤ l.self.tables.s) × (first_fault (site_fault base (tables_of l.self.tables)) l.j ≡ Ok tt)

abbrev pub decreases-entries : goal.decreases-entries
decreases-entries l = l.self.tables.s - l.j
