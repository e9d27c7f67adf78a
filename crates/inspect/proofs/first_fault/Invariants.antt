use Rattle.std.proofs.Common.{◌≡◌, ℕ, ◌<◌, Ok}
use Rattle.meaning.specs.Limits.{Test}
use Rattle.meaning.specs.Checks.{first_fault}
use Rattle.inspect.proofs.first_fault.Given as goal

abbrev pub invariant-loop-i : goal.invariant-loop-i
invariant-loop-i g l =
    (says : ℕ → Test) → ((i : ℕ) → i < l.n → (r : _) → goal.F-post g l.test i r → r ≡ says i)
    → first_fault says l.i ≡ Ok tt
