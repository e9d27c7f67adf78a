-- What a memory holds after entries of one node are written.
use mathlib.Core.Path.{◌≡◌, refl, sym, ap, ◌∙◌}
use mathlib.Core.Bool.{Bool, false, not, cond, ◌&&◌}
use mathlib.Core.List.{List, [], ◌∷◌}
use Prim.Native.Nat.{ℕ, ◌+◌, ◌*◌, ◌≤◌, ◌<◌}
use native.Mathlib.Decide.{ℕ_discrete}
use native.Mathlib.Omega.{arith}
use borrow.Author.Tests.{eq-eqb, ne_eqb, lt-ltb}
use lib.Dec.{T, not_T, eqb, ltb, ltb→lt}
use lib.ListN.{length, get_or, set, drop, replicate, length-set, length-append, length-drop, length-replicate, get_or-replicate, get_or-append}
use lib.Seq.{get_or-set_same, get_or-set_other, set-get_or, drop-set-lt, drop_at}
use Rattle.meaning.specs.Taking.{State, taken, is_open, memb, mark}
use Rattle.meaning.specs.Search.{over}
use Rattle.meaning.proofs.Bools.{T_true, T_false, and_both}
use Rattle.memory.specs.Memory.{Holds, rival_of}
use Rattle.memory.proofs.Holds.{rival_is}

-- the estimate e at v
abbrev pub line_with : (ℕ → ℕ) → ℕ → ℕ → ℕ → ℕ
line_with line v e x = cond (eqb x v) e (line x)

-- the length a at v, encoded; `order` are the taken nodes
abbrev pub put : State → ℕ → ℕ → List ℕ → State
put s v a order = record { best = set s.best v a; order = order }

module _ {n : ℕ} {site : ℕ → Bool} {line : ℕ → ℕ} {s : State} {from rest w : List ℕ} (H : Holds n site line s from rest w) where
  -- both entries of v are written, and of other nodes nothing changes
  pub held_put : (v a r : ℕ) → v < n → (line' : ℕ → ℕ) (order : List ℕ) → r ≡ cond (ltb 0 a && not (memb v order)) (rival_of (line' v) (site v)) 0
      → ((x : ℕ) → (x ≡ v → ⊥) → memb x order ≡ taken s x) → ((x : ℕ) → (x ≡ v → ⊥) → line' x ≡ line x) → (T (memb v order) → 0 < a)
      → Holds n site line' (put s v a order) from rest (set (set w v a) (n + v) r)
  unfolding is_open taken
  held_put v a r l line' order er same lines seen = record {
    room = rw (length-set, length-set) H.room;
    size = length-set s.best v a ∙ H.size;
    leads = H.leads;
    lens = λ x k. get_or-set_other (set w v a) (n + v) x r 0 (λ e. omega arith) ∙ lens x k (ℕ_discrete x v);
    rivals = λ x k. rivals x k (ℕ_discrete x v);
    before = λ x k. get_or-set_other (set w v a) (n + v) (n + n + x) r 0 (λ e. omega arith) ∙ get_or-set_other w v (n + n + x) a 0 (λ e. omega arith) ∙ H.before x k;
    seen = λ x t. seen' x t (ℕ_discrete x v);
    past = drop-set-lt (4 * n) (set w v a) (n + v) r (omega arith) ∙ drop-set-lt (4 * n) w v a (omega arith) ∙ H.past;
  }
    where
      lens : (x : ℕ) → x < n → Dec (x ≡ v) → get_or (set w v a) x 0 ≡ get_or (set s.best v a) x 0
      lens x k (yes e) = rw e (get_or-set_same w v a 0 (omega (arith, H.room)) ∙ sym (get_or-set_same s.best v a 0 (omega (arith, H.size))))
      lens x k (no z) = get_or-set_other w v x a 0 z ∙ H.lens x k ∙ sym (get_or-set_other s.best v x a 0 z)

      rivals : (x : ℕ) → x < n → Dec (x ≡ v)
          → get_or (set (set w v a) (n + v) r) (n + x) 0 ≡ cond (ltb 0 (get_or (set s.best v a) x 0) && not (memb x order)) (rival_of (line' x) (site x)) 0
      rivals x k (yes e) =
          let b = get_or-set_same s.best v a 0 (omega (arith, H.size)) in
          let m = get_or-set_same (set w v a) (n + v) r 0 (rw length-set (omega (arith, H.room))) in
          rw (e, b, m) er
      rivals x k (no z) =
          let m = get_or-set_other (set w v a) (n + v) (n + x) r 0 (λ e. z (omega arith)) in
          let o = get_or-set_other w v (n + x) a 0 (λ e. omega arith) in
          rw (get_or-set_other s.best v x a 0 z, same x z, lines x z, m, o) (H.rivals x k)

      seen' : (x : ℕ) → T (memb x order) → Dec (x ≡ v) → 0 < get_or (set s.best v a) x 0
      seen' x t (yes e) = rw (e, get_or-set_same s.best v a 0 (omega (arith, H.size))) (seen (rw e at t))
      seen' x t (no z) = rw (get_or-set_other s.best v x a 0 z) (H.seen x (rw (same x z) at t))

  -- a length that is written again changes nothing
  same_best : (v : ℕ) → set s.best v (get_or s.best v 0) ≡ s.best
  same_best v = set-get_or s.best v 0

  same_length : (v : ℕ) → v < n → set w v (get_or s.best v 0) ≡ w
  same_length v l = ap (set w v) (sym (H.lens v l)) ∙ set-get_or w v 0

  -- the open node u is marked as taken
  pub held_close : (u : ℕ) → u < n → T (is_open s u) → Holds n site line (mark s u) from rest (set w (n + u) 0)
  unfolding is_open taken memb
  held_close u l t =
      let p = ltb→lt 0 (get_or s.best u 0) (and_both (ltb 0 (get_or s.best u 0)) (not (taken s u)) t).0 in
      rw (same_best u, same_length u l) at
      (held_put u (get_or s.best u 0) 0 l line (u ∷ s.order) (rw (lt-ltb 0 (get_or s.best u 0) p, eq-eqb u u refl))
      (λ x z. rw (ne_eqb u x (λ e. z (sym e)))) (λ x z. refl) (λ z. p))

  -- the open node v has its estimate anew
  pub held_aim : (v : ℕ) → v < n → T (is_open s v) → (e : ℕ) → Holds n site (line_with line v e) s from rest (set w (n + v) (rival_of e (site v)))
  unfolding is_open taken
  held_aim v l t e =
      rw (same_best v, same_length v l) at
      (held_put v (get_or s.best v 0) (rival_of e (site v)) l (line_with line v e) s.order (rw (T_true (is_open s v) t, eq-eqb v v refl))
      (λ x z. refl) (λ x z. rw (ne_eqb x v z)) (H.seen v))

  -- a node that has not been seen has not been taken
  pub unseen_untaken : (h : ℕ) → get_or s.best h 0 ≡ 0 → taken s h ≡ false
  unseen_untaken h e = T_false (taken s h) (not_T (taken s h) (λ t. omega (arith, H.seen h t)))

  -- it is opened
  pub held_open : (h : ℕ) → h < n → get_or s.best h 0 ≡ 0 → (a e : ℕ) → 1 ≤ a
      → Holds n site (line_with line h e) (put s h a s.order) from rest (set (set w h a) (n + h) (rival_of e (site h)))
  unfolding taken
  held_open h l z a e p =
      held_put h a (rival_of e (site h)) l (line_with line h e) s.order (rw (lt-ltb 0 a p, unseen_untaken h z, eq-eqb h h refl))
      (λ x y. refl) (λ x y. rw (ne_eqb x h y)) (λ t. p)

  -- an open node has another length
  pub held_shorten : (h : ℕ) → h < n → T (is_open s h) → (a : ℕ) → 1 ≤ a → Holds n site line (put s h a s.order) from rest (set w h a)
  unfolding is_open taken
  held_shorten h l t a p =
      let u = T_true (not (taken s h)) (and_both (ltb 0 (get_or s.best h 0)) (not (taken s h)) t).1 in
      let e : get_or (set w h a) (n + h) 0 ≡ rival_of (line h) (site h) = get_or-set_other w h (n + h) a 0 (λ e. omega arith) ∙ rival_is H h l t in
      rw (set-get_or (set w h a) (n + h) 0) at
      (held_put h a (get_or (set w h a) (n + h) 0) l line s.order (rw (lt-ltb 0 a p, u) e) (λ x z. refl) (λ x z. refl) (λ z. p))

  -- another node comes before h
  pub held_lead : (h : ℕ) → h < n → (x : ℕ) → Holds n site line s (set from h x) rest (set w (n + n + h) x)
  held_lead h l x = record {
    room = rw length-set H.room;
    size = H.size;
    leads = length-set from h x ∙ H.leads;
    lens = λ v k. get_or-set_other w (n + n + h) v x 0 (λ e. omega arith) ∙ H.lens v k;
    rivals = λ v k. get_or-set_other w (n + n + h) (n + v) x 0 (λ e. omega arith) ∙ H.rivals v k;
    before = λ v k. before v k (ℕ_discrete v h);
    seen = H.seen;
    past = drop-set-lt (4 * n) w (n + n + h) x (omega arith) ∙ H.past;
  }
    where
      before : (v : ℕ) → v < n → Dec (v ≡ h) → get_or (set w (n + n + h) x) (n + n + v) 0 ≡ get_or (set from h x) v 0
      before v k (yes e) = rw e (get_or-set_same w (n + n + h) x 0 (omega (arith, H.room)) ∙ sym (get_or-set_same from h x 0 (omega (arith, H.leads))))
      before v k (no z) = get_or-set_other w (n + n + h) (n + n + v) x 0 (λ e. z (omega arith)) ∙ H.before v k ∙ sym (get_or-set_other from h v x 0 z)

-- a memory of zeros holds that nothing has been seen
pub held_none : (n : ℕ) (site : ℕ → Bool) (line : ℕ → ℕ) (w : List ℕ) → 4 * n ≤ length w
    → Holds n site line (record { best = replicate n 0; order = [] }) (replicate n 0) (drop (4 * n) w) (over (replicate (4 * n) 0) w)
unfolding is_open taken memb
held_none n site line w l = record {
  room = rw (length-append, length-replicate, length-drop) (omega arith);
  size = length-replicate n 0;
  leads = length-replicate n 0;
  lens = λ v k. zero_at v (omega arith) ∙ sym (get_or-replicate n v 0 0 k);
  rivals = λ v k. zero_at (n + v) (omega arith) ∙ rw get_or-replicate;
  before = λ v k. zero_at (n + n + v) (omega arith) ∙ sym (get_or-replicate n v 0 0 k);
  seen = λ v t. absurd t;
  past = rw length-replicate (drop_at (replicate (4 * n) 0) (drop (4 * n) w) (4 * n) (length-replicate (4 * n) 0));
}
  where
    zero_at : (i : ℕ) → i < 4 * n → get_or (over (replicate (4 * n) 0) w) i 0 ≡ 0
    zero_at i k = get_or-append (replicate (4 * n) 0) (drop (length (replicate (4 * n) 0)) w) 0 i (rw length-replicate k) ∙ get_or-replicate (4 * n) i 0 0 k
