-- Each step keeps the rule.
use Rattle.std.proofs.Common.{◌≡◌, ◌≢◌, ℕ, zero, suc, ◌+◌, ◌-◌, ◌<◌, ◌≤◌, Bool, true, false, cond, nat_lt, true≢false, List, [], ◌∷◌, ◌++◌, length, drop, take, set, sym, refl, ap, ◌∙◌, subst, ⊎_elim, zero-le, arith}
use Rattle.std.proofs.{lemmas.Bool.Decides.nat_tests, lemmas.List.Sums.sum_by_push}
use Rattle.std.proofs.lemmas.List.{drop-append-le, drop-drop, length-set, length-append, length-drop}
use mathlib.Core.Option.{some, some-injective, some-ne-none}
use lib.ListN.{get_elem?}
use Rattle.crossbeam_deque.specs.Tasks.{Pushes, Takes, Finds, Forks, Merges, Learns}
use Rattle.crossbeam_deque.proofs.Lists.{at_set, at_snoc, set_here, set_else}
use Rattle.chain_deque.specs.declared.rule.{Chain.Chain, Seen.Seen}
use Rattle.chain_deque.specs.Rule.{seen, times, once_below, live_count, times_taken, Fits, Kept, pushed_more, took_more, TookOne, Emptied, AllHere, lent, thief_of, joined, spent}
use Rattle.chain_deque.proofs.Totals.{at_lt, total_set, total_at, total_none, times_append, once_more, below}

-- 1 for a pass that takes part
abbrev is_live : Seen → ℕ
is_live v = cond v.live 1 0

-- how often a pass took a position
abbrev took_times : ℕ → Seen → ℕ
took_times x v = times x v.took

-- What fits the new entry and each other one fits all entries of the changed list.
all_set : (F : ℕ → Seen → Type 0) (views : List Seen) (port : ℕ) (w : Seen) → F port w → ((j : ℕ) (u : Seen) → j ≢ port → get_elem? views j ≡ some u → F j u) → (j : ℕ) (u : Seen) → get_elem? (set views port w) j ≡ some u → F j u
all_set F views port w mine others j u e = ⊎_elim (λ (x : (j ≡ port) × (w ≡ u)). subst (λ (y : ℕ × Seen). F y.0 y.1) (λ i. (sym x.0 i, x.1 i)) mine)
    (λ (x : (j ≢ port) × (get_elem? views j ≡ some u)). others j u x.0 x.1) (at_set views port j w u e)

begins_each : (port : ℕ) (v : Seen) → get_elem? (seen true true 0 0 [] [] ∷ []) port ≡ some v → Fits [] 0 0 port v
begins_each zero v e = subst (Fits [] 0 0 0) (some-injective (seen true true 0 0 [] []) v e) ((λ _. (refl, refl, refl)), (λ _. refl), λ dead. refl)
begins_each (suc j) v e = absurd (some-ne-none v (sym e))

none_below : (x : ℕ) → ◌≡◌ {A = ℕ} 0 (cond (nat_lt x 0) 1 0)
none_below x = grind (arith, nat_tests)

pub begins : Kept [] (seen true true 0 0 [] [] ∷ [])
begins = record { pushed = []; made = 0; out = 0; gone = 0; queue = refl; few = zero-le; passes = refl; lives = refl; taken = none_below; each = begins_each }

pub pushes : (port : ℕ) (v : Seen) (c : Chain) → v.owns ≡ true → v.live ≡ true → v.made ≡ 0 → Pushes Kept port v (c ∷ []) (λ w. w ≡ pushed_more v (c ∷ []))
pushes port v c owns live made items views h at =
    let mine = h.each port v at in
    let w : Seen = pushed_more v (c ∷ []) in
    let alone : length views ≡ 1 = h.passes ∙ ap suc (sym (mine.0 owns).1 ∙ made) in
    let l : live_count (set views port w) + is_live v ≡ live_count views + is_live v = total_set is_live views port v w at in (
      w,
      record {
        pushed = h.pushed ++ c ∷ [];
        made = h.made;
        out = h.out;
        gone = h.gone;
        queue = ap (λ (l : List Chain). l ++ c ∷ []) h.queue ∙ sym (drop-append-le h.gone h.pushed (c ∷ []) h.few);
        few = omega (arith, h.few, length-append h.pushed (c ∷ []));
        passes = length-set views port w ∙ h.passes;
        lives = omega (arith, l, h.lives);
        taken = λ x. let s : times_taken x (set views port w) + times x v.took ≡ times_taken x views + times x v.took = total_set (took_times x) views port v w at in omega (arith, s, h.taken x);
        each = all_set (Fits (h.pushed ++ c ∷ []) h.made h.out) views port w (mine.0, (λ l. ap (λ (p : List Chain). p ++ c ∷ []) (mine.1 l)), mine.2)
            (λ j u other e. absurd (other (omega (arith, at_lt views j u e, at_lt views port v at, alone))));
      },
      refl,
    )

one_of : (xs items p : List Chain) (k : ℕ) → 0 < length xs → length xs < 2 → xs ++ items ≡ drop k p → (xs ≡ take 1 (drop k p)) × (items ≡ drop (k + 1) p) × (k < length p)
one_of [] items p k least most e = absurd (omega arith)
one_of (x ∷ []) items p k least most e = (ap (take 1) e, ap (drop 1) e ∙ drop-drop 1 k p, omega (arith, ap length e, length-drop k p))
one_of (x ∷ y ∷ ys) items p k least most e = absurd (omega arith)

pub takes : (port : ℕ) (v : Seen) → v.live ≡ true → Takes Kept port v 1 (TookOne v)
takes port v live xs items views least most h at =
    let mine = h.each port v at in
    let w : Seen = took_more v h.gone in
    let o = one_of xs items h.pushed h.gone least most h.queue in
    let l : live_count (set views port w) + is_live v ≡ live_count views + is_live v = total_set is_live views port v w at in (
      w,
      record {
        pushed = h.pushed;
        made = h.made;
        out = h.out;
        gone = h.gone + 1;
        queue = o.1;
        few = omega (arith, o.2);
        passes = length-set views port w ∙ h.passes;
        lives = omega (arith, l, h.lives);
        taken = λ x.
            let s : times_taken x (set views port w) + times x v.took ≡ times_taken x views + times x (v.took ++ h.gone ∷ []) = total_set (took_times x) views port v w at in
            omega (arith, s, h.taken x, times_append x v.took (h.gone ∷ []), once_more x h.gone);
        each = all_set (Fits h.pushed h.made h.out) views port w (mine.0, mine.1, λ dead. absurd (true≢false (sym live ∙ dead))) (λ j u other e. h.each j u e);
      },
      record {
        position = h.gone;
        view_is = refl;
        above = below h.gone v.took (λ x. let t : times x v.took ≤ times_taken x views = total_at (took_times x) views port v at in omega (arith, t, h.taken x));
        there = o.0 ∙ ap (λ (p : List Chain). take 1 (drop h.gone p)) (sym (mine.1 live));
      },
    )

no_life : (b : Bool) → ◌≡◌ {A = ℕ} (cond b 1 0) 0 → b ≡ false
no_life true e = absurd (omega arith)
no_life false e = refl

-- where no thief is out, the owner took all that was taken
whole : (port : ℕ) (v : Seen) → v.owns ≡ true → v.live ≡ true → v.out ≡ 0 → (items : List Chain) (views : List Seen) (h : Kept items views) → get_elem? views port ≡ some v → (x : ℕ) → times x v.took ≡ once_below h.gone x
whole port v owns live out items views h at x =
    let mine = h.each port v at in
    let lone : is_live v ≡ 1 = ap (λ (b : Bool). cond b 1 0) live in
    let home : h.out ≡ 0 = sym (mine.0 owns).2 ∙ out in
    let l : live_count (set views port spent) + is_live v ≡ live_count views + 0 = total_set is_live views port v spent at in
    let s : times_taken x (set views port spent) + times x v.took ≡ times_taken x views + 0 = total_set (took_times x) views port v spent at in
    let z : times_taken x (set views port spent) ≡ 0 = total_none (took_times x) is_live (set views port spent)
    (all_set (λ j u. is_live u ≡ 0 → times x u.took ≡ 0) views port spent (λ _. refl) (λ j u other e dead. ap (times x) ((h.each j u e).2 (no_life u.live dead))))
    (omega (arith, l, lone, home, h.lives)) in
    omega (arith, s, z, h.taken x)

pub empties : (port : ℕ) (v : Seen) → Finds Kept port v (Emptied v)
empties port v views h at owns live out x =
    let mine = h.each port v at in
    let end : h.gone ≡ length v.pushed = omega (arith, ap length h.queue, length-drop h.gone h.pushed, h.few, ap length (mine.1 live)) in
    whole port v owns live out [] views h at x ∙ ap (λ (k : ℕ). once_below k x) end

pub learns : (port : ℕ) (v : Seen) → v.owns ≡ true → v.live ≡ true → Learns Kept port v (AllHere v)
learns port v owns live items views h at =
    let mine = h.each port v at in record {
      gone = h.gone;
      left = h.queue ∙ ap (drop h.gone) (sym (mine.1 live));
      taken = λ out x. whole port v owns live out items views h at x;
    }

pub forks : (port : ℕ) (v : Seen) → v.owns ≡ true → v.live ≡ true → Forks Kept port v (lent v) (thief_of v)
forks port v owns live items views h at =
    let mine = h.each port v at in
    let w : Seen = lent v in
    let t : Seen = thief_of v in
    let vs : List Seen = set views port w in
    let lone : is_live v ≡ 1 = ap (λ (b : Bool). cond b 1 0) live in
    let l : live_count vs + is_live v ≡ live_count views + 1 = total_set is_live views port v w at in
    let m : live_count (vs ++ t ∷ []) ≡ live_count vs + 1 = sum_by_push is_live vs t in
    record {
      pushed = h.pushed;
      made = v.made + 1;
      out = v.out + 1;
      gone = h.gone;
      queue = h.queue;
      few = h.few;
      passes = omega (arith, length-append vs (t ∷ []), length-set views port w, h.passes, (mine.0 owns).1);
      lives = omega (arith, l, m, lone, h.lives, (mine.0 owns).2);
      taken = λ x.
          let s : times_taken x vs + times x v.took ≡ times_taken x views + times x v.took = total_set (took_times x) views port v w at in
          let r : times_taken x (vs ++ t ∷ []) ≡ times_taken x vs + 0 = sum_by_push (took_times x) vs t in
          omega (arith, s, r, h.taken x);
      each = λ j u e. ⊎_elim
          (λ (x : get_elem? vs j ≡ some u). all_set (Fits h.pushed (v.made + 1) (v.out + 1)) views port w
          ((λ _. ((mine.0 owns).0, refl, refl)), (λ _. mine.1 live), λ dead. absurd (true≢false dead))
          (λ j u other e. ((λ o. absurd (other (((h.each j u e).0 o).0 ∙ sym (mine.0 owns).0))), (h.each j u e).1, (h.each j u e).2)) j u x)
          (λ (is : t ≡ u). subst (Fits h.pushed (v.made + 1) (v.out + 1) j) is ((λ o. absurd (true≢false (sym o))), (λ _. mine.1 live), λ _. refl))
          (at_snoc vs t u j e);
    }

pub merges : (port : ℕ) (v : Seen) (other : ℕ) (u : Seen) → v.owns ≡ true → v.live ≡ true → u.live ≡ true → Merges Kept port v other u (joined v u) spent
merges port v other u owns live lives items views h at two at' =
    let mine = h.each port v at in
    let both : Seen = joined v u in
    let vs : List Seen = set views port both in
    let one : is_live v ≡ 1 = ap (λ (b : Bool). cond b 1 0) live in
    let his : is_live u ≡ 1 = ap (λ (b : Bool). cond b 1 0) lives in
    let l : live_count vs + is_live v ≡ live_count views + 1 = total_set is_live views port v both at in
    let m : live_count (set vs other spent) + is_live u ≡ live_count vs + 0 = total_set is_live vs other u spent at' in
    let here : get_elem? (set vs other spent) port ≡ some both = set_else vs other port spent (λ e. two (sym e)) ∙ set_here views port both (at_lt views port v at) in
    let some_life : 1 ≤ live_count (set vs other spent) = total_at is_live (set vs other spent) port both here in
    record {
      pushed = h.pushed;
      made = v.made;
      out = v.out - 1;
      gone = h.gone;
      queue = h.queue;
      few = h.few;
      passes = length-set vs other spent ∙ (length-set views port both ∙ (h.passes ∙ ap suc (sym (mine.0 owns).1)));
      lives = omega (arith, l, m, one, his, some_life, h.lives, (mine.0 owns).2);
      taken = λ x.
          let s : times_taken x vs + times x v.took ≡ times_taken x views + times x (v.took ++ u.took) = total_set (took_times x) views port v both at in
          let r : times_taken x (set vs other spent) + times x u.took ≡ times_taken x vs + 0 = total_set (took_times x) vs other u spent at' in
          omega (arith, s, r, times_append x v.took u.took, h.taken x);
      each = all_set (Fits h.pushed v.made (v.out - 1)) vs other spent ((λ o. absurd (true≢false (sym o))), (λ l. absurd (true≢false (sym l))), λ _. refl)
          (λ j y _ e. all_set (Fits h.pushed v.made (v.out - 1)) views port both
          ((λ _. ((mine.0 owns).0, refl, refl)), (λ _. mine.1 live), λ dead. absurd (true≢false dead))
          (λ j y away e. ((λ o. absurd (away (((h.each j y e).0 o).0 ∙ sym (mine.0 owns).0))), (h.each j y e).1, (h.each j y e).2)) j y e);
    }
