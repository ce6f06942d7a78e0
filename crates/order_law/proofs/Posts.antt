-- Legal histories by the rules of claims and posts alone: each worker's list is its chains, in the order of its claims.
use Rattle.std.proofs.Common.{◌≡◌, ◌⊎◌, ℕ, zero, suc, ◌<◌, Bool, true, false, not, cond, nat_eq, nat_lt, nat_le, List, [], ◌∷◌, ◌++◌, append_assoc, append-nil, length, reverse, refl, sym, ◌∙◌, ap, subst, inl, inr, arith}
use Rattle.std.specs.List.{list_all}
use Rattle.std.proofs.lemmas.Bool.{cases_Bool, eqb-true, ltb-true, and_parts, not-true}
use Rattle.std.proofs.lemmas.List.{reverse-append}
use Rattle.jvm_model.specs.{declared.outcome.Outcome.Outcome, declared.program.Program.Program, Classes.member}
use Rattle.order_law.specs.{Conflicts.Member, Conflicts.Distinct, RecordForm.no_repeats, RecordForm.joined, RecordForm.are_chains, RecordForm.numbers_ascend}
use Rattle.order_law.specs.Plan.{NextOf, chain_at, Ascending, Event, claim, post, claims, posts, Posted, Legal, PostsOnce, AreApart, whole_chains, IsListOf, IsWholeThenPart, PostsInChains, LawOfHistories, FormsApart, ChainsApart}
use Rattle.order_law.proofs.Members.{member_left, member_right, member_either, member_reversed, reversed_member, member_true}

member_at : (x y : ℕ) (l : List ℕ) {b : Bool} → b ≡ true → Member x (cond b (y ∷ l) l) → (x ≡ y) ⊎ Member x l
member_at x y l e h = subst (λ (c : Bool). Member x (cond c (y ∷ l) l)) e h

member_past : (x y : ℕ) (l : List ℕ) {b : Bool} → b ≡ false → Member x (cond b (y ∷ l) l) → Member x l
member_past x y l e h = subst (λ (c : Bool). Member x (cond c (y ∷ l) l)) e h

member_later : (x y : ℕ) (l : List ℕ) (b : Bool) → Member x l → Member x (cond b (y ∷ l) l)
member_later x y l true h = inr h
member_later x y l false h = h

pub claims_more : (e : Event) (es : List Event) (w i : ℕ) → Member i (claims es w) → Member i (claims (e ∷ es) w)
claims_more (claim v c) es w i h = member_later i c (claims es w) (nat_eq v w) h
claims_more (post v ls t r) es w i h = h

pub posts_more : (e : Event) (es : List Event) (w x : ℕ) → Member x (posts es w) → Member x (posts (e ∷ es) w)
posts_more (claim v c) es w x h = h
posts_more (post v ls t r) es w x h = member_later x t (posts es w) (nat_eq v w) h

-- a list around a member
pub member_mid : (f : List ℕ) (t : ℕ) (r : List ℕ) → Member t (f ++ (t ∷ r))
member_mid [] t r = inl refl
member_mid (x ∷ f) t r = inr (member_mid f t r)

pub below_mid : (f : List ℕ) (t : ℕ) (r : List ℕ) → Ascending (f ++ (t ∷ r)) → (x : ℕ) → Member x (f ++ (t ∷ r)) → x < t → Member x f
below_mid [] t r a x (inl e) h = absurd (omega arith)
below_mid [] t r a x (inr i) h = absurd (let y = a.0 x i in omega arith)
below_mid (y ∷ f) t r a x (inl e) h = inl e
below_mid (y ∷ f) t r a x (inr i) h = inr (below_mid f t r a.1 x i h)

-- what was claimed and posted, at a later event
pub in_claims : (es : List Event) (v c w i : ℕ) → Member i (claims (claim v c ∷ es) w) → ((v ≡ w) × (i ≡ c)) ⊎ Member i (claims es w)
in_claims es v c w i h = elim (cases_Bool (nat_eq v w)) [
  | inl b ↦ elim (member_at i c (claims es w) b h) [ inl e ↦ inl (eqb-true v w b, e) | inr k ↦ inr k ]
  | inr b ↦ inr (member_past i c (claims es w) b h)
]

pub in_posts : (es : List Event) (v : ℕ) (ls : List ℕ) (t w x : ℕ) (o : Outcome) → Member x (posts (post v ls t o ∷ es) w) → ((v ≡ w) × (x ≡ t)) ⊎ Member x (posts es w)
in_posts es v ls t w x o h = elim (cases_Bool (nat_eq v w)) [
  | inl b ↦ elim (member_at x t (posts es w) b h) [ inl e ↦ inl (eqb-true v w b, e) | inr k ↦ inr k ]
  | inr b ↦ inr (member_past x t (posts es w) b h)
]

-- a legal history posts no test twice and no test outside the chains
pub legal_once : (p : Program) (C : List (List ℕ)) (n : ℕ) (es : List Event) → Legal p C n es → PostsOnce C es
legal_once p C n [] l = tt
legal_once p C n (claim w c ∷ es) l = legal_once p C n es l.1
legal_once p C n (post w ls t o ∷ es) l = let m = l.0 in (m.3.open_yet, (m.0, rw m.3.split (member_mid m.3.front t m.3.rest)), legal_once p C n es l.1)

pub reversed : (t : ℕ) (D : List ℕ) → reverse (t ∷ D) ≡ reverse D ++ (t ∷ [])
reversed t D = reverse-append (t ∷ []) D

distinct_mid : (f r : List ℕ) (x : ℕ) → Distinct (f ++ r) → Member x f → Member x r → ⊥
distinct_mid [] r x d i j = i
distinct_mid (y ∷ f) r x d i j = elim i [ inl e ↦ d.0 (member_right f r y (subst (λ (z : ℕ). Member z r) e j)) | inr k ↦ distinct_mid f r x d.1 k j ]

pub of_cons : {x y : ℕ} {xs ys : List ℕ} → x ∷ xs ≡ y ∷ ys → (x ≡ y) × (xs ≡ ys)
of_cons e = ((cc), (cc))

-- two fronts of one list, of which each holds what is posted and leaves what isn't
same_front : (P : ℕ → Type 0) (f r g s : List ℕ) (t : ℕ) → f ++ r ≡ g ++ (t ∷ s) → ((x : ℕ) → Member x f → P x) → ((x : ℕ) → Member x r → P x → ⊥) → ((x : ℕ) → Member x g → P x) → (P t → ⊥) → (f ≡ g) × (r ≡ t ∷ s)
same_front P [] r [] s t e a b c n = (refl, e)
same_front P [] r (y ∷ g) s t e a b c n = absurd (b y (subst (λ (z : List ℕ). Member y z) (sym e) (inl refl)) (c y (inl refl)))
same_front P (x ∷ f) r [] s t e a b c n = absurd (n (subst P (of_cons e).0 (a x (inl refl))))
same_front P (x ∷ f) r (y ∷ g) s t e a b c n =
    let q = of_cons e in
    let h = same_front P f r g s t q.1 (λ z i. a z (inr i)) b (λ z i. c z (inr i)) n in
    (ap (λ (z : ℕ). z ∷ f) q.0 ∙ ap (λ (z : List ℕ). y ∷ z) h.0, h.1)

in_whole : (C : List (List ℕ)) (cs : List ℕ) (x : ℕ) → Member x (whole_chains C cs) → (i : ℕ) × Member i cs × Member x (chain_at C i)
in_whole C [] x h = absurd h
in_whole C (c ∷ cs) x h = elim (member_either (whole_chains C cs) (chain_at C c) x h) [
  | inl j ↦ let q = in_whole C cs x j in (q.0, inr q.1, q.2)
  | inr j ↦ (c, inl refl, j)
]

module _ (p : Program) (C : List (List ℕ)) (n : ℕ) where
  pub posted_where : (es : List Event) (w x : ℕ) → Legal p C n es → Member x (posts es w) → (i : ℕ) × Member i (claims es w) × Member x (chain_at C i)
  posted_where [] w x l h = absurd h
  posted_where (claim v c ∷ es) w x l h = let q = posted_where es w x l.1 h in (q.0, claims_more (claim v c) es w q.0 q.1, q.2)
  posted_where (post v ls t r ∷ es) w x l h = elim (in_posts es v ls t w x r h) [
    | inl e ↦ let m = l.0 in (m.0, subst (λ (z : ℕ). Member m.0 (claims es z)) e.0 (rw m.2 (inl refl)), rw (e.1, m.3.split) (member_mid m.3.front t m.3.rest))
    | inr k ↦ posted_where es w x l.1 k
  ]

  pub one_claimer : (es : List Event) (w v i : ℕ) → Legal p C n es → Member i (claims es w) → Member i (claims es v) → w ≡ v
  one_claimer [] w v i l h k = absurd h
  one_claimer (claim u c ∷ es) w v i l h k = elim (in_claims es u c w i h) [
    | inl a ↦ elim (in_claims es u c v i k) [ inl b ↦ sym a.0 ∙ b.0 | inr b ↦ absurd (l.0.3 v (subst (λ (z : ℕ). Member z (claims es v)) a.1 b)) ]
    | inr a ↦ elim (in_claims es u c v i k) [ inl b ↦ absurd (l.0.3 w (subst (λ (z : ℕ). Member z (claims es w)) b.1 a)) | inr b ↦ one_claimer es w v i l.1 a b ]
  ]
  one_claimer (post u ls t r ∷ es) w v i l h k = one_claimer es w v i l.1 h k

  claimed_here : (es : List Event) (v c w : ℕ) → ((u : ℕ) → Member c (claims es u) → ⊥) → Distinct (claims es w) → (b : Bool) → Distinct (cond b (c ∷ claims es w) (claims es w))
  claimed_here es v c w f d true = (f w, d)
  claimed_here es v c w f d false = d

  claimed_once : (es : List Event) (w : ℕ) → Legal p C n es → Distinct (claims es w)
  claimed_once [] w l = tt
  claimed_once (claim v c ∷ es) w l = claimed_here es v c w l.0.3 (claimed_once es w l.1) (nat_eq v w)
  claimed_once (post v ls t o ∷ es) w l = claimed_once es w l.1

  module _ (ap_ : AreApart C) where
    -- what is posted of a chain was posted by its claimer
    mine : (es : List Event) (w i x : ℕ) → Legal p C n es → Member i (claims es w) → Member x (chain_at C i) → Posted es x → Member x (posts es w)
    mine es w i x l h k q =
        let j = posted_where es q.0 x l q.1 in
        let e : j.0 ≡ i = ap_.apart j.0 i x j.2 k in
        subst (λ (z : ℕ). Member x (posts es z)) (one_claimer es q.0 w i l (subst (λ (z : ℕ). Member z (claims es q.0)) e j.1) h) q.1

    -- what the rest of the last chain holds isn't posted
    rest_open : (es : List Event) (w i : ℕ) (cs f r : List ℕ) → Legal p C n es → claims es w ≡ i ∷ cs → chain_at C i ≡ f ++ r → reverse (posts es w) ≡ whole_chains C cs ++ f → (x : ℕ) → Member x r → Posted es x → ⊥
    rest_open es w i cs f r l e s g x m q =
        let d : Distinct (i ∷ cs) = subst (λ (z : List ℕ). Distinct z) e (claimed_once es w l) in
        let here : Member x (chain_at C i) = rw s (member_right f r x m) in
        let j = mine es w i x l (rw e (inl refl)) here q in
        elim (member_either (whole_chains C cs) f x (subst (λ (z : List ℕ). Member x z) g (member_reversed (posts es w) x j))) [
          | inl k ↦ let h = in_whole C cs x k in d.0 (subst (λ (z : ℕ). Member z cs) (ap_.apart h.0 i x h.2 here) h.1)
          | inr k ↦ distinct_mid f r x (subst (λ (z : List ℕ). Distinct z) s (ap_.once i)) k m
        ]

    -- the front of the last chain is what is posted of it
    next_front : (es : List Event) (w t i : ℕ) (cs f r : List ℕ) → Legal p C n es → claims es w ≡ i ∷ cs → chain_at C i ≡ f ++ r → reverse (posts es w) ≡ whole_chains C cs ++ f → (m : NextOf es (chain_at C i) t) → (f ≡ m.front) × (r ≡ t ∷ m.rest)
    next_front es w t i cs f r l e s g m = same_front (Posted es) f r m.front m.rest t (sym s ∙ m.split)
        (λ x k. (w, reversed_member (posts es w) x (rw g (member_right (whole_chains C cs) f x k)))) (rest_open es w i cs f r l e s g) m.posted m.open_yet

    -- the list of a worker that claims one more chain
    full_list : (es : List Event) (w c : ℕ) (cs l : List ℕ) → Legal p C n es → claims es w ≡ cs → reverse (posts es w) ≡ l → IsListOf C cs l →
        ((i x : ℕ) → Member i cs → Member x (chain_at C i) → Posted es x) → l ≡ whole_chains C cs
    full_list es w c [] l lg e g h all = h
    full_list es w c (i ∷ cs) l lg e g (f, [], s, k) all = k ∙ ap (λ (z : List ℕ). whole_chains C cs ++ z) (sym (append-nil f) ∙ sym s)
    full_list es w c (i ∷ cs) l lg e g (f, x ∷ r, s, k) all = absurd (rest_open es w i cs f (x ∷ r) lg e s (g ∙ k) x (inl refl) (all i x (inl refl) (rw s (member_right f (x ∷ r) x (inl refl)))))

    grown : (es : List Event) (w t : ℕ) → Legal p C n es → (m : (i : ℕ) × (rest : List ℕ) × (claims es w ≡ i ∷ rest) × NextOf es (chain_at C i) t) →
        IsListOf C (claims es w) (reverse (posts es w)) → IsListOf C (claims es w) (reverse (t ∷ posts es w))
    grown es w t l m ih =
        let h = subst (λ (z : List ℕ). IsListOf C z (reverse (posts es w))) m.2 ih in
        let q = next_front es w t m.0 m.1 h.0 h.1 l m.2 h.2 h.3 m.3 in
        subst (λ (z : List ℕ). IsListOf C z (reverse (t ∷ posts es w))) (sym m.2) (
          h.0 ++ (t ∷ []),
          m.3.rest,
          h.2 ∙ ap (λ (z : List ℕ). h.0 ++ z) q.1 ∙ sym (append_assoc h.0 (t ∷ []) m.3.rest),
          reversed t (posts es w) ∙ ap (λ (z : List ℕ). z ++ (t ∷ [])) h.3 ∙ append_assoc (whole_chains C m.1) h.0 (t ∷ []),
        )

    lists : (es : List Event) (w : ℕ) → Legal p C n es → IsListOf C (claims es w) (reverse (posts es w))
    lists [] w l = refl
    lists (claim v c ∷ es) w l = elim (cases_Bool (nat_eq v w)) [
      | inl b ↦
          let all = subst (λ (z : ℕ). (i x : ℕ) → Member i (claims es z) → Member x (chain_at C i) → Posted es x) (eqb-true v w b) l.0.4 in
          let k = full_list es w c (claims es w) (reverse (posts es w)) l.1 refl refl (lists es w l.1) all in
          rw b ([], chain_at C c, refl, k ∙ sym (append-nil (whole_chains C (claims es w))))
      | inr b ↦ rw b (lists es w l.1)
    ]
    lists (post v ls t o ∷ es) w l = elim (cases_Bool (nat_eq v w)) [
      | inl b ↦ let e = eqb-true v w b in let m = l.0 in
          rw b (subst (λ (z : ℕ). IsListOf C (claims es z) (reverse (t ∷ posts es z))) e (grown es v t l.1 (m.0, m.1, m.2, m.3) (lists es v l.1)))
      | inr b ↦ rw b (lists es w l.1)
    ]

    next_list : (es : List Event) (w t i : ℕ) (rest : List ℕ) → Legal p C n es → claims es w ≡ i ∷ rest → NextOf es (chain_at C i) t → IsWholeThenPart C (reverse (posts es w)) t
    next_list es w t i rest l e m =
        let h = subst (λ (z : List ℕ). IsListOf C z (reverse (posts es w))) e (lists es w l) in
        let q = next_front es w t i rest h.0 h.1 l e h.2 h.3 m in
        record {
          whole = rest;
          last = i;
          front = m.front;
          rest = m.rest;
          once = subst (λ (z : List ℕ). Distinct z) e (claimed_once es w l);
          split = m.split;
          list = h.3 ∙ ap (λ (z : List ℕ). whole_chains C rest ++ z) q.0;
        }

    each_post : (es : List Event) → Legal p C n es → PostsInChains C es
    each_post [] l = tt
    each_post (claim w c ∷ es) l = each_post es l.1
    each_post (post w ls t o ∷ es) l = let m = l.0 in (subst (λ (z : List ℕ). IsWholeThenPart C z t) (sym m.4) (next_list es w t m.0 m.1 l.1 m.2 m.3), each_post es l.1)

two_fronts : (P : ℕ → Type 0) (f r g s : List ℕ) (t u : ℕ) → f ++ (t ∷ r) ≡ g ++ (u ∷ s) → ((x : ℕ) → Member x f → P x) → (P t → ⊥) → ((x : ℕ) → Member x g → P x) → (P u → ⊥) → t ≡ u
two_fronts P [] r [] s t u e a n c k = (of_cons e).0
two_fronts P [] r (y ∷ g) s t u e a n c k = absurd (n (subst P (sym (of_cons e).0) (c y (inl refl))))
two_fronts P (x ∷ f) r [] s t u e a n c k = absurd (k (subst P (of_cons e).0 (a x (inl refl))))
two_fronts P (x ∷ f) r (y ∷ g) s t u e a n c k = two_fronts P f r g s t u (of_cons e).1 (λ z i. a z (inr i)) n (λ z i. c z (inr i)) k

pub law_of_histories : LawOfHistories
law_of_histories p C n es a l = record {
  claimed_once = λ w. claimed_once p C n es w l;
  one_claimer = λ w v i h k. one_claimer p C n es w v i l h k;
  once = legal_once p C n es l;
  lists = λ w. lists p C n a es w l;
  posted = each_post p C n a es l;
  next = λ w t i rest e m. next_list p C n a es w t i rest l e m;
  one_next = λ i t u m k. two_fronts (Posted es) m.front m.rest k.front k.rest t u (sym m.split ∙ k.split) m.posted m.open_yet k.posted k.open_yet;
}

-- chains that are apart
pub ascending_distinct : (l : List ℕ) → Ascending l → Distinct l
ascending_distinct [] a = tt
ascending_distinct (t ∷ l) a = ((λ i. absurd (let h = a.0 t i in omega arith)), ascending_distinct l a.1)

-- neighbours that rise say it of all
ascending_head : (t : ℕ) (l : List ℕ) → numbers_ascend (t ∷ l) ≡ true → (u : ℕ) → Member u l → t < u
ascending_head t [] e u i = absurd i
ascending_head t (x ∷ l) e u i =
    let a = and_parts (nat_lt t x) (numbers_ascend (x ∷ l)) e in
    let h = ltb-true t x a.0 in
    elim i [ inl g ↦ omega arith | inr j ↦ let k = ascending_head x l a.1 u j in omega arith ]

ascending_tail : (t : ℕ) (l : List ℕ) → numbers_ascend (t ∷ l) ≡ true → numbers_ascend l ≡ true
ascending_tail t [] e = refl
ascending_tail t (x ∷ l) e = (and_parts (nat_lt t x) (numbers_ascend (x ∷ l)) e).1

pub ascending_from : (l : List ℕ) → numbers_ascend l ≡ true → Ascending l
ascending_from [] e = tt
ascending_from (t ∷ l) e = (ascending_head t l e, ascending_from l (ascending_tail t l e))

pub chains_apart : ChainsApart
chains_apart R S C cs = record { apart = cs.apart; once = λ i. ascending_distinct (chain_at C i) (cs.ascending i) }

repeats_none : (l : List ℕ) → no_repeats l ≡ true → Distinct l
repeats_none [] e = tt
repeats_none (t ∷ l) e = let a = and_parts (not (member t l)) (no_repeats l) e in
    ((λ i. absurd (let h = member_true t l i in let k = not-true (member t l) a.0 in let z = sym h ∙ k in cc)), repeats_none l a.1)

in_joined : (C : List (List ℕ)) (i t : ℕ) → Member t (chain_at C i) → Member t (joined C)
in_joined [] i t h = absurd h
in_joined (c ∷ C) zero t h = member_left c (joined C) t h
in_joined (c ∷ C) (suc i) t h = member_right c (joined C) t (in_joined C i t h)

distinct_front : (f r : List ℕ) → Distinct (f ++ r) → Distinct f × Distinct r
distinct_front [] r d = (tt, d)
distinct_front (x ∷ f) r d = let q = distinct_front f r d.1 in ((λ i. d.0 (member_left f r x i), q.0), q.1)

apart_from : (C : List (List ℕ)) → Distinct (joined C) → (i j t : ℕ) → Member t (chain_at C i) → Member t (chain_at C j) → i ≡ j
apart_from [] d i j t h k = absurd h
apart_from (c ∷ C) d zero zero t h k = refl
apart_from (c ∷ C) d zero (suc j) t h k = absurd (distinct_mid c (joined C) t d h (in_joined C j t k))
apart_from (c ∷ C) d (suc i) zero t h k = absurd (distinct_mid c (joined C) t d k (in_joined C i t h))
apart_from (c ∷ C) d (suc i) (suc j) t h k = ap suc (apart_from C (distinct_front c (joined C) d).1 i j t h k)

once_from : (C : List (List ℕ)) → Distinct (joined C) → (i : ℕ) → Distinct (chain_at C i)
once_from [] d i = tt
once_from (c ∷ C) d zero = (distinct_front c (joined C) d).0
once_from (c ∷ C) d (suc i) = once_from C (distinct_front c (joined C) d).1 i

pub forms_apart : FormsApart
unfolding are_chains
forms_apart C e = let d = repeats_none (joined C) (and_parts (list_all (λ l. nat_le 1 (length l)) C) (no_repeats (joined C)) e).1 in record { apart = apart_from C d; once = once_from C d }
