-- The routes of the listed sites are written back to back, and their ends: what is left to write,
-- written from here, is the whole.
use mathlib.Core.List.{List, [], ◌∷◌, map}
use mathlib.Core.Path.{◌≡◌, refl, ap, sym, ◌∙◌}
use Prim.Native.Nat.{ℕ, suc, ◌+◌, ◌-◌, ◌*◌, ◌≤◌, ◌<◌}
use native.Mathlib.Nat.{le_trans, mul-le-mul}
use native.Mathlib.Numerals.{add-one}
use native.Mathlib.Omega.{arith}
use lib.ListN.{length, get_or, set, take, drop, length-append, length-map, length-set, drop_of_length-le}
use lib.Seq.{sets, length-sets, length-take-le, drop-cons, get_or-take}
use Rattle.meaning.specs.Limits.{base}
use Rattle.meaning.specs.Listing.{Stop}
use Rattle.meaning.specs.Search.{over, back_to_back, ends_after}
use Rattle.routes.specs.Trace.{way_in, lines_in, Leads}
use Rattle.routes.proofs.Stores.{sets_append, sets_over}
use Rattle.routes.proofs.Ways.{way_most}

-- ---- how much is written

length_lines : (n : ℕ) (w xs : List ℕ) → length (lines_in n w xs) ≡ length xs
unfolding lines_in
length_lines n w [] = refl
length_lines n w (x ∷ xs) = ap suc (length_lines n w xs)

length_ends : (list : List Stop) (used : ℕ) → length (ends_after used list) ≡ length list
unfolding ends_after
length_ends [] used = refl
length_ends (l ∷ list) used = ap suc (length_ends list (used + length l.way))

length_routes : (n : ℕ) (w xs : List ℕ) → 1 ≤ n → length (back_to_back (lines_in n w xs)) ≤ length xs * n
unfolding lines_in back_to_back
length_routes n w [] one = omega arith
length_routes n w (x ∷ xs) one =
    omega (arith, length-append (map suc (way_in n w (x - 1))) (back_to_back (lines_in n w xs)), length-map (way_in n w (x - 1)) suc, way_most n w (x - 1) one, length_routes n w xs one)

-- ---- the loop

-- the route of entry i
abbrev way_at : ℕ → List ℕ → List ℕ → ℕ → List ℕ
way_at n w listed i = way_in n w (get_or listed i 0 - 1)

-- the lines from entry i on, of `count`
abbrev lines_from : ℕ → List ℕ → List ℕ → ℕ → ℕ → List Stop
lines_from n w listed count i = lines_in n w (drop i (take count listed))

-- before entry i the routes have been written, up to `at`, and their ends
pub record Lined (n : ℕ) (w listed : List ℕ) (count : ℕ) (e₀ r₀ e r : List ℕ) (at i : ℕ) : Type 0 where
  pub high : i ≤ count
  pub low : at ≤ i * n
  pub ends_size : length e ≡ length e₀
  pub routes_size : length r ≡ length r₀
  pub ends_are : sets e i (ends_after at (lines_from n w listed count i)) ≡ sets e₀ 0 (ends_after 0 (lines_in n w (take count listed)))
  pub routes_are : sets r at (back_to_back (lines_from n w listed count i)) ≡ sets r₀ 0 (back_to_back (lines_in n w (take count listed)))

module _ {n : ℕ} {w listed : List ℕ} {count : ℕ} {e₀ r₀ e r : List ℕ} {at i : ℕ} (m : Leads n w listed count) (k : Lined n w listed count e₀ r₀ e r at i) where
  size : length (take count listed) ≡ count
  size = length-take-le count listed m.lines

  -- an end has room in 16 bits
  pub lined_small : i < count → (end : ℕ) → end ≡ at + length (way_at n w listed i) → end ≤ 32768
  lined_small l end d =
      omega (arith, k.low, way_most n w (get_or listed i 0 - 1) m.linked.one, mul-le-mul {n₁ = suc i} {m₁ = n} {n₂ = base.k} {m₂ = base.nodes} (omega (arith, m.few)) m.linked.nodes)

  cut : i < count → drop i (take count listed) ≡ get_or listed i 0 ∷ drop (suc i) (take count listed)
  cut l = rw (drop-cons (take count listed) i 0 (omega (arith, size)), get_or-take count listed i 0 l)

  -- one route more
  joined : i < count → sets (sets r at (map suc (way_at n w listed i))) (at + length (way_at n w listed i)) (back_to_back (lines_from n w listed count (suc i))) ≡ sets r at (back_to_back (lines_from n w listed count i))
  unfolding lines_in back_to_back
  joined l = rw (cut l, ← length-map (way_at n w listed i) suc) (sym (sets_append r at (map suc (way_at n w listed i)) (back_to_back (lines_from n w listed count (suc i)))))

  pub lined_on : i < count → (end : ℕ) (r' : List ℕ) → end ≡ at + length (way_at n w listed i) → r' ≡ sets r at (map suc (way_at n w listed i)) → Lined n w listed count e₀ r₀ (set e i end) r' end (i + 1)
  unfolding lines_in ends_after
  lined_on l end r' d f = rw (add-one, d, f) record {
    high = l;
    low = omega (arith, k.low, way_most n w (get_or listed i 0 - 1) m.linked.one);
    ends_size = length-set e i (at + length (way_at n w listed i)) ∙ k.ends_size;
    routes_size = length-sets r at (map suc (way_at n w listed i)) ∙ k.routes_size;
    ends_are = rw (cut l) at k.ends_are;
    routes_are = joined l ∙ k.routes_are;
  }

  nothing : count ≤ i → lines_from n w listed count i ≡ []
  unfolding lines_in
  nothing l = ap (lines_in n w) (drop_of_length-le (take count listed) {i = i} (omega (arith, size)))

  pub ends_written : count ≤ i → count ≤ length e₀ → e ≡ over (ends_after 0 (lines_in n w (take count listed))) e₀
  unfolding ends_after
  ends_written l h =
      ap (λ (list : List Stop). sets e i (ends_after at list)) (sym (nothing l)) ∙ k.ends_are
      ∙ sets_over e₀ (ends_after 0 (lines_in n w (take count listed))) (omega (arith, size, length_ends (lines_in n w (take count listed)) 0, length_lines n w (take count listed)))

  pub routes_written : count ≤ i → count * n ≤ length r₀ → r ≡ over (back_to_back (lines_in n w (take count listed))) r₀
  unfolding back_to_back
  routes_written l h =
      ap (λ (list : List Stop). sets r at (back_to_back list)) (sym (nothing l)) ∙ k.routes_are
      ∙ sets_over r₀ (back_to_back (lines_in n w (take count listed))) (le_trans (rw size at (length_routes n w (take count listed) m.linked.one)) h)
