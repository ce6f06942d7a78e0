-- One class file or one test more.
use Rattle.std.proofs.Common.{◌≡◌, ℕ, suc, ◌+◌, ◌-◌, List, [], ◌∷◌, ◌++◌, get_or, filter, Bool, true, false, not, ◌&&◌, ◌||◌, cond, refl, sym, ◌∙◌, ap, arith}
use Rattle.std.specs.List.{list_any, range_with_len}
use Rattle.std.proofs.{lemmas.List.Elements.filter-append, lemmas.List.Folds.list_any-append}
use Rattle.et_base.proofs.Ranges.{range_suc}
use Rattle.jvm_model.specs.declared.program.Program.{Program}
use Rattle.order_law.specs.{declared.records.Prints.Prints, declared.records.More.More, declared.records.Reach.Reach, Reach.puts_out_somewhere}
use Rattle.impact_pick.specs.Pick.{is_changed, is_hit, is_open, is_after_hit, is_picked, reach_at, no_reach}

or_none : (b c : Bool) → (b || (c || false)) ≡ (b || c)
or_none true c = refl
or_none false true = refl
or_none false false = refl

any_next : (f : ℕ → Bool) (i : ℕ) → list_any f (range_with_len 1 (suc i)) ≡ (list_any f (range_with_len 1 i) || f (1 + i))
any_next f i = ap (list_any f) (range_suc 1 i (1 + i) refl) ∙ (list_any-append f (range_with_len 1 i) ((1 + i) ∷ []) ∙ or_none (list_any f (range_with_len 1 i)) (f (1 + i)))

put_one : (b : Bool) (xs : List ℕ) (x : ℕ) → xs ++ cond b (x ∷ []) [] ≡ cond b (xs ++ x ∷ []) xs
put_one false (y ∷ xs) x = ap (λ (zs : List ℕ). y ∷ zs) (put_one false xs x)
put_one _ _ x = refl

-- a number more is found where it passes the test
pub next_found : (f : ℕ → Bool) (i : ℕ) (b : Bool) (found new : List ℕ) → found ≡ filter f (range_with_len 1 i) → b ≡ f (i + 1) → new ≡ cond b (found ++ (i + 1) ∷ []) found → new ≡ filter f (range_with_len 1 (i + 1))
next_found f i b found new is here e =
    let s : suc i ≡ i + 1 = omega arith in
    let t : 1 + i ≡ i + 1 = omega arith in
    let one : filter f (range_with_len 1 (suc i)) ≡ filter f (range_with_len 1 i) ++ cond (f (1 + i)) ((1 + i) ∷ []) [] = ap (filter f) (range_suc 1 i (1 + i) refl) ∙ filter-append f (range_with_len 1 i) ((1 + i) ∷ []) in
    e ∙ (sym (put_one b found (i + 1)) ∙ (ap (λ (l : List ℕ). l ++ cond b ((i + 1) ∷ []) []) is ∙ (ap (λ (c : Bool). filter f (range_with_len 1 i) ++ cond c ((i + 1) ∷ []) []) here
    ∙ (ap (λ (k : ℕ). filter f (range_with_len 1 i) ++ cond (f k) (k ∷ []) []) (sym t) ∙ (sym one ∙ ap (λ (k : ℕ). filter f (range_with_len 1 k)) s)))))

-- the next test is listed where it is picked
module _ (m : More) (q : Program) (x : Prints) (i : ℕ) (r : Reach) (at : get_or m.reach i no_reach ≡ r) (tests : List ℕ) (after hit puts : Bool) (listed : tests ≡ filter (is_picked m q x) (range_with_len 1 i))
    (hit_before : after ≡ list_any (is_hit m x) (range_with_len 1 i)) (hit_here : hit ≡ list_any (is_changed m x) r.classes) (put : puts ≡ puts_out_somewhere q) where
  place : (1 + i) - 1 ≡ i
  place = omega arith

  reached : reach_at m (1 + i) ≡ r
  reached = ap (λ (k : ℕ). get_or m.reach k no_reach) place ∙ at

  hit_is : is_hit m x (1 + i) ≡ hit
  hit_is = ap (λ (z : Reach). list_any (is_changed m x) z.classes) reached ∙ sym hit_here

  after_is : is_after_hit m x (1 + i) ≡ after
  after_is = ap (λ (k : ℕ). list_any (is_hit m x) (range_with_len 1 k)) place ∙ sym hit_before

  open_is : is_open m q (1 + i) ≡ (not r.settled || puts)
  open_is = ap (λ (z : Reach). not z.settled || puts_out_somewhere q) reached ∙ ap (λ (b : Bool). not r.settled || b) (sym put)

  picked_is : is_picked m q x (1 + i) ≡ (hit || ((not r.settled || puts) && after))
  unfolding is_picked
  picked_is = ap (λ (b : Bool). b || (is_open m q (1 + i) && is_after_hit m x (1 + i))) hit_is
      ∙ (ap (λ (b : Bool). hit || (b && is_after_hit m x (1 + i))) open_is ∙ ap (λ (b : Bool). hit || ((not r.settled || puts) && b)) after_is)

  pub next_listed : (again : Bool) (new : List ℕ) → again ≡ (hit || ((not r.settled || puts) && after)) → new ≡ cond again (tests ++ (i + 1) ∷ []) tests → new ≡ filter (is_picked m q x) (range_with_len 1 (i + 1))
  next_listed again new a e = let t : 1 + i ≡ i + 1 = omega arith in next_found (is_picked m q x) i again tests new listed (a ∙ (sym picked_is ∙ ap (is_picked m q x) t)) e

  pub next_after : (new : Bool) → new ≡ (after || hit) → new ≡ list_any (is_hit m x) (range_with_len 1 (i + 1))
  next_after new e =
      let s : i + 1 ≡ suc i = omega arith in
      e ∙ (ap (λ (b : Bool). b || hit) hit_before ∙ (ap (λ (b : Bool). list_any (is_hit m x) (range_with_len 1 i) || b) (sym hit_is) ∙ (sym (any_next (is_hit m x) i) ∙ ap (λ (k : ℕ). list_any (is_hit m x) (range_with_len 1 k)) (sym s))))
