-- A node closed: the estimates that are held stay, and the present ones only rise.
use mathlib.Core.Bool.{Bool, true, false, not, ◌||◌}
use mathlib.Core.List.{List}
use mathlib.Core.Path.{◌≡◌, refl, ap, fun_ext, ◌∙◌}
use Prim.Native.Nat.{ℕ, ◌+◌, ◌<◌}
use native.Mathlib.Omega.{arith}
use lib.Dec.{T, eqb}
use lib.ListN.{set}
use Rattle.meaning.specs.Region.{Tables, Region, region_of, is_site, x_at, y_at}
use Rattle.meaning.specs.Straight.{straight}
use Rattle.meaning.specs.Taking.{State, taken, memb, is_open, aimed, mark}
use Rattle.meaning.specs.Search.{aim_of}
use Rattle.meaning.proofs.Bools.{and_both, and_make, nor_both}
use Rattle.meaning.proofs.Estimates.{sites_mono}
use Rattle.meaning.proofs.Relaxing.{aimed_site}
use Rattle.memory.proofs.Writes.{held_close}
use Rattle.taking.specs.Steps.{Live, Closed}

pub closed : (n u : ℕ) (w : List ℕ) → u < n → Closed n u w (set w (n + u) 0)
closed n u w l site line s from rest H o = held_close H u l o

-- what is aimed at when u is taken was aimed at before
aimed_less : (R : Region) (s : State) (u v : ℕ) → T (aimed R (mark s u) v) → T (aimed R s v)
unfolding aimed taken memb
aimed_less R s u v t =
    let b = and_both (is_site R v) (not (eqb u v || memb v s.order)) t in
    and_make (is_site R v) (not (memb v s.order)) b.0 (nor_both (eqb u v) (memb v s.order) b.1).1

same_test : (a b : Bool) → (T a → T b) → (T b → T a) → a ≡ b
same_test true true f g = refl
same_test true false f g = absurd (f tt)
same_test false true f g = absurd (g tt)
same_test false false f g = refl

pub close_live : (t : Tables) (u : ℕ) (w w' : List ℕ) → Closed t.n u w w' → (s : State) (from rest : List ℕ) → Live t s from rest w → T (is_open s u) → Live t (mark s u) from rest w'
close_live t u w w' c s from rest L o = record {
  line = L.line;
  holds = c (is_site (region_of t)) L.line s from rest L.holds o;
  low = λ j m v.
      let a = L.low j (aimed_less (region_of t) s u j m) v in
      let b = sites_mono (region_of t) (straight (x_at t) (y_at t)) (aimed (region_of t) s) (aimed (region_of t) (mark s u)) (aimed_site (region_of t) s) (aimed_less (region_of t) s u) j m v in
      omega arith;
  exact = λ a v. L.exact (λ j z. aimed_less (region_of t) s u j (a j z)) v ∙ ap (λ (S : ℕ → Bool). aim_of t S v) (same_aims a);
}
  where
    -- where all sites are left, they are what was aimed at before
    same_aims : ((j : ℕ) → T (is_site (region_of t) j) → T (aimed (region_of t) (mark s u) j)) → aimed (region_of t) s ≡ aimed (region_of t) (mark s u)
    same_aims a = fun_ext (λ j. same_test (aimed (region_of t) s j) (aimed (region_of t) (mark s u) j) (λ z. a j (aimed_site (region_of t) s j z)) (aimed_less (region_of t) s u j))
