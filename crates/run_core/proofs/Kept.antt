-- What a core keeps: the tables of a legal history, from the empty one on and over each event.
use Rattle.std.proofs.Common.{◌≡◌, ℕ, zero, suc, ◌+◌, ◌-◌, ◌^◌, ◌<◌, ◌≤◌, Bool, true, cond, nat_eq, List, [], ◌∷◌, ◌++◌, length, get_or, take, drop, set, map, replicate, reverse, sum_by, refl, sym, ◌∙◌, ap, subst, inl, inr, arith, true≢false}
use Rattle.std.proofs.lemmas.Bool.{cases_Bool, cases_eq, cases_lt, eqb-true, eq-eqb}
use Rattle.std.proofs.lemmas.List.{take-append-drop, take_all, length-append, length-map, length-replicate, length-set, get_or-set_same, get_or-set_other, get_or-replicate}
use Rattle.std.proofs.{lemmas.List.Folds.fold-map, Math.ListN.get_or-map}
use Rattle.std.proofs.lemmas.List.Sums.{fold-append, sum_by-set, sum_by-le-sum_by}
use lib.Seq.{drop-cons, take-suc}
use Rattle.jvm_model.specs.declared.{outcome.Outcome.Outcome, program.Program.Program}
use Rattle.order_law.specs.{Conflicts.Member, Conflicts.Distinct, RecordForm.are_chains}
use Rattle.order_law.specs.Plan as law
use Rattle.order_law.proofs.Members.{snoc_member}
use Rattle.order_law.proofs.Posts.{claims_more, posts_more, in_claims, in_posts, member_mid, reversed, of_cons, law_of_histories, forms_apart}
use Rattle.run_core.specs.declared.{events.Event.Event, events.Event.TheVariants.Claim, events.Event.TheVariants.Post, tables.Row.Row}
use Rattle.run_core.specs.Refusal.{HasNone}
use Rattle.run_core.specs.Run.{Run, before_last, last_of, told, history_of, most_events, IsInRange}
use Rattle.run_core.specs.Kept.{row, row_at, hand_of, in_hand, IsClaimer, IsDone, AreTables, list_or, last_list, owed, IsKept, IsSplit, claimed, posted, rows_after, hands_after, MayEnter}

-- ---- lists
no_cons : {i : ℕ} {l : List ℕ} → [] ≡ i ∷ l → ⊥
no_cons {i} {l} e = let h : 0 ≡ suc (length l) = ap length e in omega arith

split_at : (l : List ℕ) (d : ℕ) → d < length l → l ≡ take d l ++ (get_or l d 0 ∷ drop (suc d) l)
split_at l d h = sym (take-append-drop d l) ∙ ap (λ (z : List ℕ). take d l ++ z) (drop-cons l d 0 h)

distinct_after : (f r : List ℕ) (t : ℕ) → Distinct (f ++ (t ∷ r)) → Member t r → ⊥
distinct_after [] r t d i = d.0 i
distinct_after (x ∷ f) r t d i = distinct_after f r t d.1 i

pub in_drop : (l : List ℕ) (d t : ℕ) → Member t (drop d l) → Member t l
in_drop l zero t i = i
in_drop [] (suc d) t i = absurd i
in_drop (x ∷ l) (suc d) t i = inr (in_drop l d t i)

-- a table after a change at one place
set_cases : (rows : List Row) (k i : ℕ) (x : Row) (P : Row → Type 0) → k < length rows → (i ≡ k → P x) → ((i ≡ k → ⊥) → P (row_at rows i)) → P (row_at (set rows k x) i)
set_cases rows k i x P h same other = elim (cases_eq i k) [
  | inl e ↦ subst P (sym (ap (λ (z : ℕ). row_at (set rows k x) z) e ∙ get_or-set_same rows k x (row 0 0 0) h)) (same e)
  | inr ne ↦ subst P (sym (get_or-set_other rows k i x (row 0 0 0) ne)) (other ne)
]

-- ---- what is posted of a chain
pub open_next : (es : List law.Event) (chain : List ℕ) (d : ℕ) → IsDone es chain d → d < length chain → law.NextOf es chain (get_or chain d 0)
open_next es chain d k h = record {
  front = take d chain;
  rest = drop (suc d) chain;
  split = split_at chain d h;
  posted = k.posted;
  open_yet = λ q. k.others (get_or chain d 0) (rw (drop-cons chain d 0 h) (inl refl)) q;
}

pub all_posted : (es : List law.Event) (chain : List ℕ) (d : ℕ) → IsDone es chain d → length chain ≤ d → (t : ℕ) → Member t chain → law.Posted es t
all_posted es chain d k h t m = k.posted t (subst (λ (z : List ℕ). Member t z) (sym (take_all d chain h)) m)

open_place : (es : List law.Event) (chain : List ℕ) (d t : ℕ) → IsDone es chain d → law.NextOf es chain t → d < length chain
open_place es chain d t k next = elim (cases_lt d (length chain)) [
  | inl h ↦ h
  | inr h ↦ absurd (next.open_yet (all_posted es chain d k (omega arith) t (rw next.split (member_mid next.front t next.rest))))
]

-- ---- histories
module _ (p : Program) (C : List (List ℕ)) (n : ℕ) where
  pub claimed_range : (es : List law.Event) (w i : ℕ) → law.Legal p C n es → Member i (law.claims es w) → (0 < w) × (w ≤ n) × (i < length C)
  claimed_range [] w i l m = absurd m
  claimed_range (law.claim v c ∷ es) w i l m = elim (in_claims es v c w i m) [
    | inl e ↦ (subst (λ (z : ℕ). 0 < z) e.0 l.0.0, subst (λ (z : ℕ). z ≤ n) e.0 l.0.1, subst (λ (z : ℕ). z < length C) (sym e.1) l.0.2)
    | inr k ↦ claimed_range es w i l.1 k
  ]
  claimed_range (law.post v ls t o ∷ es) w i l m = claimed_range es w i l.1 m

  -- the chains before a worker's last are posted
  earlier_posted : (es : List law.Event) (w i j t : ℕ) (rest : List ℕ) → law.Legal p C n es → law.claims es w ≡ i ∷ rest → Member j rest → Member t (law.chain_at C j) → law.Posted es t
  earlier_posted [] w i j t rest l e m k = absurd (no_cons e)
  earlier_posted (law.claim v c ∷ es) w i j t rest l e m k = elim (cases_Bool (nat_eq v w)) [
    | inl b ↦
        let x : c ∷ law.claims es w ≡ i ∷ rest = subst (λ (z : Bool). cond z (c ∷ law.claims es w) (law.claims es w) ≡ i ∷ rest) b e in
        let m' : Member j (law.claims es w) = subst (λ (z : List ℕ). Member j z) (sym (of_cons x).1) m in
        l.0.4 j t (subst (λ (z : ℕ). Member j (law.claims es z)) (sym (eqb-true v w b)) m') k
    | inr b ↦ earlier_posted es w i j t rest l.1 (subst (λ (z : Bool). cond z (c ∷ law.claims es w) (law.claims es w) ≡ i ∷ rest) b e) m k
  ]
  earlier_posted (law.post v ls u o ∷ es) w i j t rest l e m k = let q = earlier_posted es w i j t rest l.1 e m k in (q.0, posts_more (law.post v ls u o) es q.0 t q.1)

  pub has_none : (es : List law.Event) (w : ℕ) (cs : List ℕ) → law.Legal p C n es → law.claims es w ≡ cs
      → ((i : ℕ) (rest : List ℕ) → cs ≡ i ∷ rest → (t : ℕ) → Member t (law.chain_at C i) → law.Posted es t) → HasNone C es w
  has_none es w [] l e f i t m k = absurd (subst (λ (z : List ℕ). Member i z) e m)
  has_none es w (j ∷ rest) l e f i t m k = elim (subst (λ (z : List ℕ). Member i z) e m) [
    | inl x ↦ f j rest refl t (subst (λ (z : ℕ). Member t (law.chain_at C z)) x k)
    | inr y ↦ earlier_posted es w j i t rest l e y k
  ]

  pub hand_in : (es : List law.Event) (w : ℕ) (cs : List ℕ) → law.Legal p C n es → law.claims es w ≡ cs → in_hand cs ≤ length C
  hand_in es w [] l e = omega arith
  hand_in es w (i ∷ rest) l e = let h : i < length C = (claimed_range es w i l (subst (λ (z : List ℕ). Member i z) (sym e) (inl refl))).2 in omega arith

  -- ---- tables over a claim
  claim_tables : (es : List law.Event) (rows : List Row) (hands : List ℕ) (w c : ℕ) → 0 < c → AreTables C n es rows hands → law.Meets p C n (law.claim w (c - 1)) es
      → AreTables C n (law.claim w (c - 1) ∷ es) (set rows (c - 1) (claimed (row_at rows (c - 1)) w)) (set hands (w - 1) c)
  claim_tables es rows hands w c some k m =
      let at : c - 1 < length rows = subst (λ (z : ℕ). c - 1 < z) (sym k.many) m.2 in
      record {
        many = length-set rows (c - 1) (claimed (row_at rows (c - 1)) w) ∙ k.many;
        workers = length-set hands (w - 1) c ∙ k.workers;
        hand = λ v a b. elim (cases_Bool (nat_eq w v)) [
          | inl e ↦
              let same : w ≡ v = eqb-true w v e in
              let there : w - 1 < length hands = (let g = k.workers in let h : w ≤ n = m.1 in let h0 : 0 < w = m.0 in omega arith) in
              let value : c ≡ suc (c - 1) = omega arith in
              rw e (ap (λ (z : ℕ). hand_of (set hands (w - 1) c) z) (sym same) ∙ get_or-set_same hands (w - 1) c 0 there ∙ value)
          | inr e ↦
              let h0 : 0 < w = m.0 in
              let ne : v - 1 ≡ w - 1 → ⊥ = λ x. let y : w ≡ v = omega arith in true≢false (sym (eq-eqb w v y) ∙ e) in
              rw e (get_or-set_other hands (w - 1) (v - 1) c 0 ne ∙ k.hand v a b)
        ];
        by = λ i lt. set_cases rows (c - 1) i (claimed (row_at rows (c - 1)) w) (λ r. IsClaimer (law.claim w (c - 1) ∷ es) i r.by) at
            (λ e. inr (m.0, rw (eq-eqb w w refl) (inl e)))
            (λ ne. elim (k.by i lt) [
              | inl f ↦ inl (f.0, λ u j. elim (in_claims es w (c - 1) u i j) [ inl x ↦ absurd (ne x.1) | inr y ↦ f.1 u y ])
              | inr f ↦ inr (f.0, claims_more (law.claim w (c - 1)) es (row_at rows i).by i f.1)
            ]);
        size = λ i lt. set_cases rows (c - 1) i (claimed (row_at rows (c - 1)) w) (λ r. r.size ≡ length (law.chain_at C i)) at
            (λ e. subst (λ (z : ℕ). (row_at rows z).size ≡ length (law.chain_at C i)) e (k.size i lt)) (λ ne. k.size i lt);
        done = λ i lt.
            let d = k.done i lt in
            let d' : IsDone (law.claim w (c - 1) ∷ es) (law.chain_at C i) (row_at rows i).done = record { few = d.few; posted = d.posted; others = d.others } in
            set_cases rows (c - 1) i (claimed (row_at rows (c - 1)) w) (λ r. IsDone (law.claim w (c - 1) ∷ es) (law.chain_at C i) r.done) at
            (λ e. subst (λ (z : ℕ). IsDone (law.claim w (c - 1) ∷ es) (law.chain_at C i) (row_at rows z).done) e d') (λ ne. d');
      }

  -- ---- tables over a post
  one_more : (es : List law.Event) (chain : List ℕ) (d w t : ℕ) (ls : List ℕ) (o : Outcome) → Distinct chain → IsDone es chain d → d < length chain → t ≡ get_or chain d 0 → IsDone (law.post w ls t o ∷ es) chain (d + 1)
  one_more es chain d w t ls o apart k h is =
      let one : d + 1 ≡ suc d = omega arith in
      subst (λ (z : ℕ). IsDone (law.post w ls t o ∷ es) chain z) (sym one) (record {
        few = omega arith;
        posted = λ x m. elim (snoc_member (take d chain) (get_or chain d 0) x (subst (λ (z : List ℕ). Member x z) (take-suc chain d 0 h) m)) [
          | inl j ↦ let q = k.posted x j in (q.0, posts_more (law.post w ls t o) es q.0 x q.1)
          | inr e ↦ (w, rw (eq-eqb w w refl) (inl (e ∙ sym is)))
        ];
        others = λ x m q. elim (in_posts es w ls t q.0 x o q.1) [
          | inl e ↦ distinct_after (take d chain) (drop (suc d) chain) (get_or chain d 0) (subst Distinct (split_at chain d h) apart) (subst (λ (z : ℕ). Member z (drop (suc d) chain)) (e.1 ∙ is) m)
          | inr j ↦ k.others x (rw (drop-cons chain d 0 h) (inr m)) (q.0, j)
        ];
      })

  other_chain : (es : List law.Event) (chain : List ℕ) (d w t : ℕ) (ls : List ℕ) (o : Outcome) → (Member t chain → ⊥) → IsDone es chain d → IsDone (law.post w ls t o ∷ es) chain d
  other_chain es chain d w t ls o absent k = record {
    few = k.few;
    posted = λ x m. let q = k.posted x m in (q.0, posts_more (law.post w ls t o) es q.0 x q.1);
    others = λ x m q. elim (in_posts es w ls t q.0 x o q.1) [
      | inl e ↦ absent (subst (λ (z : ℕ). Member z chain) e.1 (in_drop chain d x m))
      | inr j ↦ k.others x m (q.0, j)
    ];
  }

  -- the post's test is the next of its chain
  pub record Place (es : List law.Event) (rows : List Row) (hands : List ℕ) (w t : ℕ) : Type 0 where
    pub some : 0 < hand_of hands w
    pub within : hand_of hands w - 1 < length C
    pub left : (row_at rows (hand_of hands w - 1)).done < length (law.chain_at C (hand_of hands w - 1))
    pub is : t ≡ get_or (law.chain_at C (hand_of hands w - 1)) (row_at rows (hand_of hands w - 1)).done 0

  pub place_of : (es : List law.Event) (rows : List Row) (hands : List ℕ) (w t : ℕ) (ls : List ℕ) (o : Outcome) → law.AreApart C → law.Legal p C n es → AreTables C n es rows hands → 0 < w → w ≤ n
      → law.Meets p C n (law.post w ls t o) es → Place es rows hands w t
  place_of es rows hands w t ls o apart l k a b m =
      let i = m.0 in
      let hand : hand_of hands w ≡ suc i = k.hand w a b ∙ ap in_hand m.2 in
      let lt : i < length C = (claimed_range es w i l (subst (λ (z : List ℕ). Member i z) (sym m.2) (inl refl))).2 in
      let d = k.done i lt in
      let h = open_place es (law.chain_at C i) (row_at rows i).done t d m.3 in
      let is = (law_of_histories p C n es apart l).one_next i t (get_or (law.chain_at C i) (row_at rows i).done 0) m.3 (open_next es (law.chain_at C i) (row_at rows i).done d h) in
      let back : i ≡ hand_of hands w - 1 = omega arith in
      record {
        some = omega arith;
        within = subst (λ (z : ℕ). z < length C) back lt;
        left = subst (λ (z : ℕ). (row_at rows z).done < length (law.chain_at C z)) back h;
        is = subst (λ (z : ℕ). t ≡ get_or (law.chain_at C z) (row_at rows z).done 0) back is;
      }

  post_tables : (es : List law.Event) (rows : List Row) (hands : List ℕ) (w t : ℕ) (ls : List ℕ) (o : Outcome) → law.AreApart C → AreTables C n es rows hands → Place es rows hands w t
      → AreTables C n (law.post w ls t o ∷ es) (set rows (hand_of hands w - 1) (posted (row_at rows (hand_of hands w - 1)))) hands
  post_tables es rows hands w t ls o apart k at =
      let c = hand_of hands w - 1 in
      let x = posted (row_at rows c) in
      let there : c < length rows = subst (λ (z : ℕ). c < z) (sym k.many) at.within in
      let here : Member t (law.chain_at C c) = subst (λ (z : ℕ). Member z (law.chain_at C c)) (sym at.is)
      (in_drop (law.chain_at C c) (row_at rows c).done (get_or (law.chain_at C c) (row_at rows c).done 0) (rw (drop-cons (law.chain_at C c) (row_at rows c).done 0 at.left) (inl refl))) in
      record {
        many = length-set rows c x ∙ k.many;
        workers = k.workers;
        hand = k.hand;
        by = λ i lt. set_cases rows c i x (λ r. IsClaimer es i r.by) there (λ e. subst (λ (z : ℕ). IsClaimer es i (row_at rows z).by) e (k.by i lt)) (λ ne. k.by i lt);
        size = λ i lt. set_cases rows c i x (λ r. r.size ≡ length (law.chain_at C i)) there (λ e. subst (λ (z : ℕ). (row_at rows z).size ≡ length (law.chain_at C i)) e (k.size i lt)) (λ ne. k.size i lt);
        done = λ i lt. set_cases rows c i x (λ r. IsDone (law.post w ls t o ∷ es) (law.chain_at C i) r.done) there
            (λ e. subst (λ (z : ℕ). IsDone (law.post w ls t o ∷ es) (law.chain_at C z) ((row_at rows c).done + 1)) (sym e)
            (one_more es (law.chain_at C c) (row_at rows c).done w t ls o (apart.once c) (k.done c at.within) at.left at.is))
            (λ ne. other_chain es (law.chain_at C i) (row_at rows i).done w t ls o (λ m. ne (apart.apart i c t m here)) (k.done i lt));
      }

-- ---- the events still to come
owed_claim : (r : Row) (w : ℕ) → r.by ≡ 0 → 0 < w → owed (claimed r w) + 1 ≡ owed r
owed_claim r w e h = elim (cases_Bool (nat_eq w 0)) [
  | inl b ↦ absurd (let y : w ≡ 0 = eqb-true w 0 b in omega arith)
  | inr b ↦ let a : nat_eq r.by 0 ≡ true = eq-eqb r.by 0 e in
      ap (λ (z : Bool). cond z 1 0 + (r.size - r.done) + 1) b ∙ (let s : 0 + (r.size - r.done) + 1 ≡ 1 + (r.size - r.done) = omega arith in s) ∙ ap (λ (z : Bool). cond z 1 0 + (r.size - r.done)) (sym a)
]

one_less : (a s d : ℕ) → d < s → a + (s - (d + 1)) + 1 ≡ a + (s - d)
one_less a s d h = omega arith

sum_less : (rows : List Row) (k : ℕ) (x : Row) → k < length rows → owed x + 1 ≡ owed (row_at rows k) → sum_by owed (set rows k x) + 1 ≡ sum_by owed rows
sum_less rows k x h e = omega (arith, sum_by-set owed rows k x (row 0 0 0) h, e)

nobody : (es : List law.Event) (i v : ℕ) → IsClaimer es i v → ((u : ℕ) → Member i (law.claims es u) → ⊥) → v ≡ 0
nobody es i v k none = elim k [ inl e ↦ e.0 | inr e ↦ absurd (none v e.1) ]

-- ---- a core over an event
told_more : (h : List Event) (e : Event) → history_of (h ++ (e ∷ [])) ≡ told e ∷ history_of h
told_more h e = fold-append (λ (es : List law.Event) (e : Event). told e ∷ es) [] h (e ∷ [])

list_more : (w : ℕ) (h : List Event) (e : Event) → IsSplit e → last_list w h ≡ reverse (law.posts (history_of h) w)
    → ((p : Program) (C : List (List ℕ)) (n : ℕ) → law.Meets p C n (told e) (history_of h) → last_list w (h ++ (e ∷ [])) ≡ reverse (law.posts (told e ∷ history_of h) w))
list_more w h (Claim v c) s is p C n m = fold-append (list_or w) [] h (Claim v c ∷ []) ∙ is
list_more w h (Post q) s is p C n m = fold-append (list_or w) [] h (Post q ∷ []) ∙ elim (cases_Bool (nat_eq q.worker w)) [
  | inl b ↦
      let e : q.worker ≡ w = eqb-true q.worker w b in
      rw b (s ∙ ap (λ (z : List ℕ). z ++ (last_of q.list ∷ [])) (m.4 ∙ ap (λ (z : ℕ). reverse (law.posts (history_of h) z)) e) ∙ sym (reversed (last_of q.list) (law.posts (history_of h) w)))
  | inr b ↦ rw b is
]

module _ {p : Program} {C : List (List ℕ)} {n : ℕ} {rows : List Row} {hands : List ℕ} {h : List Event} {room : ℕ} (k : IsKept p C n rows hands h room) where
  apart : law.AreApart C
  apart = forms_apart C k.form

  -- what an event needs of the tables
  pub record Goes (e : Event) : Type 0 where
    pub tables : AreTables C n (told e ∷ history_of h) (rows_after rows hands e) (hands_after hands e)
    pub enters : MayEnter rows hands e
    pub less : sum_by owed (rows_after rows hands e) + 1 ≡ sum_by owed rows

  abbrev pub run_of : Run
  run_of = record { program = p; chains = C; workers = n; events = h }

  pub goes : (e : Event) → IsInRange run_of e → law.Meets p C n (told e) (history_of h) → Goes e
  goes (Claim w c) r m =
      let t = k.tables in
      let at : c - 1 < length rows = subst (λ (z : ℕ). c - 1 < z) (sym t.many) m.2 in
      record {
        tables = claim_tables p C n (history_of h) rows hands w c r.1 t m;
        enters = (m.0, subst (λ (z : ℕ). w ≤ z) (sym t.workers) m.1, r.1, subst (λ (z : ℕ). c ≤ z) (sym t.many) r.2);
        less = sum_less rows (c - 1) (claimed (row_at rows (c - 1)) w) at (owed_claim (row_at rows (c - 1)) w (nobody (history_of h) (c - 1) (row_at rows (c - 1)).by (t.by (c - 1) m.2) m.3) m.0);
      }
  goes (Post q) r m =
      let t = k.tables in
      let at = place_of p C n (history_of h) rows hands q.worker (last_of q.list) (before_last q.list) q.outcome apart k.legal t r.0.0 r.0.1 m in
      let c = hand_of hands q.worker - 1 in
      let there : c < length rows = subst (λ (z : ℕ). c < z) (sym t.many) at.within in
      let left : (row_at rows c).done < (row_at rows c).size = subst (λ (z : ℕ). (row_at rows c).done < z) (sym (t.size c at.within)) at.left in
      record {
        tables = post_tables p C n (history_of h) rows hands q.worker (last_of q.list) (before_last q.list) q.outcome apart t at;
        enters = (r.0.0, subst (λ (z : ℕ). q.worker ≤ z) (sym t.workers) r.0.1, at.some, (let s = at.some in omega arith), left);
        less = sum_less rows c (posted (row_at rows c)) there (one_less (cond (nat_eq (row_at rows c).by 0) 1 0) (row_at rows c).size (row_at rows c).done left);
      }

  pub room_left : (e : Event) → Goes e → length h < room
  room_left e g = omega (arith, g.less, k.left, k.room)

  pub kept_more : (e : Event) → IsSplit e → law.Meets p C n (told e) (history_of h) → Goes e → (room' : ℕ) → room ≤ room'
      → IsKept p C n (rows_after rows hands e) (hands_after hands e) (h ++ (e ∷ [])) room'
  kept_more e s m g room' more =
      let told' = told_more h e in
      record {
        form = k.form;
        legal = subst (λ (z : List law.Event). law.Legal p C n z) (sym told') (m, k.legal);
        tables = subst (λ (z : List law.Event). AreTables C n z (rows_after rows hands e) (hands_after hands e)) (sym told') g.tables;
        lists = λ w. list_more w h e s (k.lists w) p C n m ∙ ap (λ (z : List law.Event). reverse (law.posts z w)) (sym told');
        few = k.few;
        left = omega (arith, g.less, k.left, length-append h (e ∷ []));
        room = omega (arith, k.room, more);
      }

  pub kept_after : (e : Event) → IsSplit e → law.Meets p C n (told e) (history_of h) → Goes e → (rows' : List Row) (hands' : List ℕ) (h' : List Event) (room' : ℕ)
      → rows' ≡ rows_after rows hands e → hands' ≡ hands_after hands e → h' ≡ h ++ (e ∷ []) → room ≤ room' → IsKept p C n rows' hands' h' room'
  kept_after e s m g rows' hands' h' room' a b c more =
      subst (λ (z : List Row). IsKept p C n z hands' h' room') (sym a) (subst (λ (z : List ℕ). IsKept p C n (rows_after rows hands e) z h' room') (sym b)
      (subst (λ (z : List Event). IsKept p C n (rows_after rows hands e) (hands_after hands e) z room') (sym c) (kept_more e s m g room' more)))

-- ---- the empty history
abbrev first_row : List ℕ → Row
first_row c = row 0 0 (length c)

owed_start : (C : List (List ℕ)) → sum_by owed (map first_row C) ≡ most_events C
owed_start C =
    let none : List ℕ → ℕ = λ c. owed (first_row c) in
    let all : List ℕ → ℕ = λ c. length c + 1 in
    let most = sum_by-le-sum_by none all C (λ c. omega arith) in
    let least = sum_by-le-sum_by all none C (λ c. omega arith) in
    fold-map (λ (a : ℕ) (r : Row). a + owed r) first_row 0 C ∙ (let same : sum_by none C ≡ sum_by all C = omega (arith, most, least) in same)

first_tables : (C : List (List ℕ)) (n : ℕ) → AreTables C n [] (map first_row C) (replicate n 0)
first_tables C n = record {
  many = length-map C first_row;
  workers = length-replicate n 0;
  hand = λ w a b. get_or-replicate n (w - 1) 0 0 (omega arith);
  by = λ i lt. inl (ap (λ (r : Row). r.by) (get_or-map first_row C i []), λ u m. m);
  size = λ i lt. ap (λ (r : Row). r.size) (get_or-map first_row C i []);
  done = λ i lt. subst (λ (z : ℕ). IsDone [] (law.chain_at C i) z) (sym (ap (λ (r : Row). r.done) (get_or-map first_row C i [])))
      (record { few = omega arith; posted = λ t m. absurd m; others = λ t m q. q.1 });
}

pub kept_first : (p : Program) (C : List (List ℕ)) (n : ℕ) (rows : List Row) (hands : List ℕ) (h : List Event) (room : ℕ) → are_chains C ≡ true
    → most_events C < 2 ^ 32 → most_events C ≤ room → rows ≡ map first_row C → hands ≡ replicate n 0 → h ≡ [] → IsKept p C n rows hands h room
kept_first p C n rows hands h room form few more a b c =
    let start : IsKept p C n (map first_row C) (replicate n 0) [] room = record {
      form = form;
      legal = tt;
      tables = first_tables C n;
      lists = λ w. refl;
      few = few;
      left = omega (arith, owed_start C);
      room = more;
    } in
    subst (λ (z : List Row). IsKept p C n z hands h room) (sym a) (subst (λ (z : List ℕ). IsKept p C n (map first_row C) z h room) (sym b)
    (subst (λ (z : List Event). IsKept p C n (map first_row C) (replicate n 0) z room) (sym c) start))
