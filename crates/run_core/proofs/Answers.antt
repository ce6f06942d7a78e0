-- What the calls of a core answer.
use Rattle.std.proofs.Common.{◌≡◌, ℕ, suc, ◌+◌, ◌-◌, ◌^◌, ◌<◌, ◌≤◌, nat_eq, List, [], ◌∷◌, ◌++◌, length, get_or, take, drop, reverse, Option, Some, None, MatchOption, Bor, option_copied, refl, sym, ◌∙◌, ap, subst, inl, inr, arith, true≢false}
use Rattle.std.specs.List.{fold}
use Rattle.std.proofs.lemmas.{Bool.cases_Bool, Bool.cases_lt, Bool.eqb-true, Bool.eq-eqb, List.length-append, List.length-reverse}
use lib.ListN.{get_or-eq_default}
use lib.Seq.{drop-cons, take-append_seam}
use Rattle.jvm_model.specs.{declared.outcome.Outcome.Outcome, declared.program.Program.Program, Suite.last_outcome}
use Rattle.order_law.specs.Conflicts.{Member}
use Rattle.order_law.specs.Plan as law
use Rattle.order_law.proofs.Posts.{in_posts, reversed}
use Rattle.test_run.specs.Running.{Posted}
use Rattle.run_core.specs.declared.events.{Event.Event, Event.TheVariants.Claim, Event.TheVariants.Post, Refused.Refused}
use Rattle.run_core.specs.declared.events.Refused.TheVariants.{InHand, Taken, Idle, NotNext, OtherList}
use Rattle.run_core.specs.declared.tables.{Open.Open, Row.Row}
use Rattle.run_core.specs.Refusal.{HasOpen, HasNone, EndsWith, DifferFirstAt, IsRefused, Names}
use Rattle.run_core.specs.Run.{Run, history, before_last, last_of, told, history_of, most_events, IsInRange, IsLegal, MayFollow, Gave}
use Rattle.run_core.specs.Kept.{row_at, hand_of, in_hand, IsClaimer, AreDone, IsFull, IsHeld, IsSplit, outcome_or, IsKept}
use Rattle.run_core.proofs.Kept.{in_drop, open_next, all_posted, claimed_range, has_none, hand_in}

-- ---- chains in hand
in_hand_cons : (cs : List ℕ) (h : ℕ) → in_hand cs ≡ h → 0 < h → (rest : List ℕ) × (cs ≡ (h - 1) ∷ rest)
in_hand_cons [] h e some = absurd (omega arith)
in_hand_cons (i ∷ rest) h e some = let g : i ≡ h - 1 = omega arith in (rest, ap (λ (z : ℕ). z ∷ rest) g)

module _ {p : Program} {C : List (List ℕ)} {n : ℕ} {rows : List Row} {hands : List ℕ} {h : List Event} {room : ℕ} (k : IsKept p C n rows hands h room) where
  pub hand_fits : (w : ℕ) → 0 < w → w ≤ n → hand_of hands w ≤ length C
  hand_fits w a b = subst (λ (z : ℕ). z ≤ length C) (sym (k.tables.hand w a b)) (hand_in p C n (history_of h) w (law.claims (history_of h) w) k.legal refl)

  pub opened : (w : ℕ) → 0 < w → w ≤ n → (o : Option Open) → MatchOption o (IsFull C rows (hand_of hands w)) (λ x. IsHeld C rows (hand_of hands w) x)
      → MatchOption o (HasNone C (history_of h) w) (λ x. (0 < x.chain) × HasOpen C (history_of h) w (x.chain - 1) x.test)
  opened w a b None full = has_none p C n (history_of h) w (law.claims (history_of h) w) k.legal refl (λ i rest e t m.
      let hand : hand_of hands w ≡ suc i = k.tables.hand w a b ∙ ap in_hand e in
      let q : hand_of hands w - 1 ≡ i = omega arith in
      let lt : i < length C = (claimed_range p C n (history_of h) w i k.legal (subst (λ (z : List ℕ). Member i z) (sym e) (inl refl))).2 in
      let some : 0 < hand_of hands w = omega arith in
      all_posted (history_of h) (law.chain_at C i) (row_at rows i).done (k.tables.done i lt)
      (subst (λ (z : ℕ). length (law.chain_at C z) ≤ (row_at rows z).done) q (full some)) t m)
  opened w a b (Some x) held =
      let i = hand_of hands w - 1 in
      let c = in_hand_cons (law.claims (history_of h) w) (hand_of hands w) (sym (k.tables.hand w a b)) held.1 in
      let lt : i < length C = (claimed_range p C n (history_of h) w i k.legal (subst (λ (z : List ℕ). Member i z) (sym c.1) (inl refl))).2 in
      let next = open_next (history_of h) (law.chain_at C i) (row_at rows i).done (k.tables.done i lt) held.2 in
      subst (λ (z : ℕ). (0 < z) × HasOpen C (history_of h) w (z - 1) x.test) (sym held.0)
      (held.1, record { earlier = c.0; claimed = c.1; next = subst (λ (z : ℕ). law.NextOf (history_of h) (law.chain_at C i) z) (sym held.3) next })

  -- ---- whether all is posted
  pub completes : AreDone rows → law.IsComplete C (history_of h)
  completes all i t m = elim (cases_lt i (length C)) [
    | inl lt ↦ all_posted (history_of h) (law.chain_at C i) (row_at rows i).done (k.tables.done i lt)
        (let e = all i (subst (λ (z : ℕ). i < z) (sym k.tables.many) lt) in let s = k.tables.size i lt in omega (arith, e, s)) t m
    | inr ge ↦ absurd (subst (λ (z : List ℕ). Member t z) (get_or-eq_default C [] ge) m)
  ]

  pub completed : law.IsComplete C (history_of h) → AreDone rows
  completed all i r =
      let lt : i < length C = subst (λ (z : ℕ). i < z) k.tables.many r in
      let d = k.tables.done i lt in
      let l = law.chain_at C i in
      let x = (row_at rows i).done in
      elim (cases_lt x (length l)) [
        | inl left ↦
            let here : Member (get_or l x 0) (drop x l) = rw (drop-cons l x 0 left) (inl refl) in
            absurd (d.others (get_or l x 0) here (all i (get_or l x 0) (in_drop l x (get_or l x 0) here)))
        | inr full ↦ let few = d.few in let s = k.tables.size i lt in omega (arith, few, s)
      ]

  -- ---- how many events came, and how many tests a worker posted
  pub events_few : length h ≤ most_events C
  events_few = omega (arith, k.left)

  told_length : (g : List Event) (es : List law.Event) → length (fold (λ (es : List law.Event) (e : Event). told e ∷ es) es g) ≡ length es + length g
  told_length [] es = omega arith
  told_length (e ∷ g) es = told_length g (told e ∷ es) ∙ (let s : suc (length es) + length g ≡ length es + suc (length g) = omega arith in s)

  own_events : (es : List law.Event) (w : ℕ) → length (law.posts es w) + length (law.claims es w) ≤ length es
  own_events [] w = omega arith
  own_events (law.claim v c ∷ es) w = elim (cases_Bool (nat_eq v w)) [
    | inl b ↦ rw b (omega (arith, own_events es w))
    | inr b ↦ rw b (omega (arith, own_events es w))
  ]
  own_events (law.post v ls t o ∷ es) w = elim (cases_Bool (nat_eq v w)) [
    | inl b ↦ rw b (omega (arith, own_events es w))
    | inr b ↦ rw b (omega (arith, own_events es w))
  ]

  pub posts_few : (w i t : ℕ) → HasOpen C (history_of h) w i t → length (reverse (law.posts (history_of h) w)) + 1 < 2 ^ 32
  posts_few w i t x =
      let c : length (law.claims (history_of h) w) ≡ suc (length x.earlier) = ap length x.claimed in
      omega (arith, length-reverse (law.posts (history_of h) w), own_events (history_of h) w, c, told_length h [], k.left, k.few)

-- ---- lists that end with a test
last_snoc : (xs : List ℕ) (t : ℕ) → get_or (xs ++ (t ∷ [])) (length xs) 0 ≡ t
last_snoc [] t = refl
last_snoc (x ∷ xs) t = last_snoc xs t

snoc_length : (xs : List ℕ) (t : ℕ) → length (xs ++ (t ∷ [])) - 1 ≡ length xs
snoc_length xs t = omega (arith, length-append xs (t ∷ []))

last_is : (xs : List ℕ) (t : ℕ) → last_of (xs ++ (t ∷ [])) ≡ t
last_is xs t = ap (λ (z : ℕ). get_or (xs ++ (t ∷ [])) z 0) (snoc_length xs t) ∙ last_snoc xs t

before_is : (xs : List ℕ) (t : ℕ) → before_last (xs ++ (t ∷ [])) ≡ xs
before_is xs t = ap (λ (z : ℕ). take z (xs ++ (t ∷ []))) (snoc_length xs t) ∙ take-append_seam xs (t ∷ [])

split_is : (l xs : List ℕ) (t : ℕ) → l ≡ xs ++ (t ∷ []) → before_last l ++ (last_of l ∷ []) ≡ l
split_is l xs t e =
    ap (λ (z : List ℕ). before_last z ++ (last_of z ∷ [])) e ∙ ap (λ (z : List ℕ). z ++ (last_of (xs ++ (t ∷ [])) ∷ [])) (before_is xs t)
    ∙ ap (λ (z : ℕ). xs ++ (z ∷ [])) (last_is xs t) ∙ sym e

-- ---- refusals
claimer_is : (es : List law.Event) (i v : ℕ) → IsClaimer es i v → 0 < v → Member i (law.claims es v)
claimer_is es i v k some = elim k [ inl e ↦ absurd (let z = e.0 in omega arith) | inr e ↦ e.1 ]

nobody_is : (es : List law.Event) (i : ℕ) → IsClaimer es i 0 → (u : ℕ) → Member i (law.claims es u) → ⊥
nobody_is es i k = elim k [ inl e ↦ e.1 | inr e ↦ absurd (let z = e.0 in omega arith) ]

module _ (r : Run) where
  pub claim_follows : (w c : ℕ) → IsInRange r (Claim w c) → HasNone r.chains (history r) w → IsClaimer (history r) (c - 1) 0 → MayFollow r (Claim w c) × IsSplit (Claim w c)
  claim_follows w c range none free =
      let some = range.1 in let low = range.2 in
      ((range.0.0, range.0.1, (omega arith), nobody_is (history r) (c - 1) free, none), tt)

  pub claim_taken : (w c v : ℕ) → HasNone r.chains (history r) w → IsClaimer (history r) (c - 1) v → 0 < v → IsRefused r.chains (history r) (Claim w c) (Taken v)
  claim_taken w c v none k some = (none, claimer_is (history r) (c - 1) v k some)

  pub post_follows : (q : Posted) (i t : ℕ) (before : List ℕ) → HasOpen r.chains (history r) q.worker i t → before ≡ reverse (law.posts (history r) q.worker)
      → q.list ≡ before ++ (t ∷ []) → q.program ≡ r.program → last_outcome q.program q.list ≡ Some q.outcome → MayFollow r (Post q) × IsSplit (Post q)
  post_follows q i t before hand is e same gives =
      let a : last_of q.list ≡ t = ap last_of e ∙ last_is before t in
      let b : before_last q.list ≡ before = ap before_last e ∙ before_is before t in
      let s = split_is q.list before t e in (
        (
          i,
          hand.earlier,
          hand.claimed,
          subst (λ (z : ℕ). law.NextOf (history r) (law.chain_at r.chains i) z) (sym a) hand.next,
          b ∙ is,
          ap (last_outcome r.program) s ∙ (ap (λ (z : Program). last_outcome z q.list) (sym same) ∙ gives),
        ),
        sym s,
      )

  pub post_differs : (q : Posted) (i t k : ℕ) (before : List ℕ) → HasOpen r.chains (history r) q.worker i t → before ≡ reverse (law.posts (history r) q.worker)
      → EndsWith q.list t → DifferFirstAt q.list (before ++ (t ∷ [])) k → IsRefused r.chains (history r) (Post q) (OtherList k)
  post_differs q i t k before hand is ends differ =
      let e : before ++ (t ∷ []) ≡ law.list_of (history r) q.worker t = ap (λ (z : List ℕ). z ++ (t ∷ [])) is ∙ sym (reversed t (law.posts (history r) q.worker)) in
      (i, t, hand, ends, subst (λ (z : List ℕ). DifferFirstAt q.list z k) e differ)

  pub named : IsLegal r → (e : Event) (why : Refused) → IsRefused r.chains (history r) e why → Names (length r.chains) r.workers why
  named l (Claim w c) (InHand d) x =
      let hand = x.2 in
      let a = (claimed_range r.program r.chains r.workers (history r) w (d - 1) l (subst (λ (z : List ℕ). Member (d - 1) z) (sym hand.claimed) (inl refl))).2 in
      let b = x.0 in (b, (omega arith))
  named l (Claim w c) (Taken v) x = let a = claimed_range r.program r.chains r.workers (history r) v (c - 1) l x.1 in (a.0, a.1)
  named l (Claim w c) Idle x = tt
  named l (Claim w c) (NotNext t) x = tt
  named l (Claim w c) (OtherList t) x = tt
  named l (Post q) (InHand d) x = absurd x
  named l (Post q) (Taken d) x = absurd x
  named l (Post q) Idle x = tt
  named l (Post q) (NotNext t) x = tt
  named l (Post q) (OtherList t) x = tt

-- ---- outcomes
pub copied : (o : Option (Bor Outcome)) (A : Type 0) (B : Outcome → Type 0) → MatchOption (option_copied o) A B → MatchOption o A (λ r. B r.now)
copied None A B m = m
copied (Some r) A B m = m

abbrev Sound : List law.Event → ℕ → Option Outcome → Type 0
Sound es t o = MatchOption o (law.Posted es t → ⊥) (λ x. Gave es t x)

posted_before : (es : List law.Event) (w t : ℕ) (ls : List ℕ) (u : ℕ) (r : Outcome) → (u ≡ t → ⊥) → (o : Option Outcome) → Sound es t o → Sound (law.post w ls u r ∷ es) t o
posted_before es w t ls u r ne None s = λ q. elim (in_posts es w ls u q.0 t r q.1) [ inl e ↦ ne (sym e.1) | inr m ↦ s (q.0, m) ]
posted_before es w t ls u r ne (Some x) s = inr s

sound_one : (es : List law.Event) (t : ℕ) (o : Option Outcome) (e : Event) → Sound es t o → Sound (told e ∷ es) t (outcome_or t o e)
sound_one es t o (Claim w c) s = s
sound_one es t o (Post q) s = elim (cases_Bool (nat_eq (last_of q.list) t)) [
  | inl b ↦ rw b (inl (eqb-true (last_of q.list) t b, refl))
  | inr b ↦ rw b (posted_before es q.worker t (before_last q.list) (last_of q.list) q.outcome (λ e. true≢false (sym (eq-eqb (last_of q.list) t e) ∙ b)) o s)
]

sound_all : (h : List Event) (es : List law.Event) (t : ℕ) (o : Option Outcome) → Sound es t o → Sound (fold (λ (es : List law.Event) (e : Event). told e ∷ es) es h) t (fold (outcome_or t) o h)
sound_all [] es t o s = s
sound_all (e ∷ h) es t o s = sound_all h (told e ∷ es) t (outcome_or t o e) (sound_one es t o e s)

pub sound : (h : List Event) (t : ℕ) → Sound (history_of h) t (fold (outcome_or t) None h)
sound h t = sound_all h [] t None (λ q. q.1)
