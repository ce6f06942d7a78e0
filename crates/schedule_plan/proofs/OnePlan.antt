-- There is one plan of chains for so many workers.
use Rattle.std.proofs.Common.{◌≡◌, ◌↔◌, ℕ, zero, suc, ◌+◌, ◌-◌, ◌*◌, ◌<◌, ◌≤◌, true, cond, List, [], ◌∷◌, length, filter, sum, sum_by, refl, sym, ◌∙◌, ap, subst, inl, inr, arith}
use Rattle.std.proofs.lemmas.{Bool.cases_Bool, Bool.true≢false, List.same_lists, List.get_or_default}
use Rattle.std.proofs.{lemmas.List.Sums.sum_by-cons, lemmas.List.Sums.get_or-le-sum_by, Math.Nat.mul-le-mul_right, Math.Nat.suc-mul, Math.Nat.zero-add}
use Rattle.order_law.specs.Conflicts.{Member}
use Rattle.schedule_plan.specs.{declared.shares.Share.Share, Grouping.at}
use Rattle.schedule_plan.specs.Plans.{is_earlier, Falling, no_share, share_at, chains_at, load_before, IsLighter, IsPlanOf, LawOfPlans}
use Rattle.schedule_plan.proofs.{Inserted.earlier_is, Inserted.not_itself, Inserted.not_both, Dealing.held_within}

-- ---- lists in falling order
module _ (sizes : List ℕ) where
  heads : (c : ℕ) (l : List ℕ) (d : ℕ) (m : List ℕ) → Falling sizes (c ∷ l) → Falling sizes (d ∷ m) → ((x : ℕ) → Member x (c ∷ l) ↔ Member x (d ∷ m)) → c ≡ d
  heads c l d m f g h = elim ((h c).0 (inl refl)) [
    | inl e ↦ e
    | inr j ↦ elim ((h d).1 (inl refl)) [ inl e ↦ sym e | inr k ↦ absurd (not_both sizes c d (f.0 d k) (g.0 c j)) ]
  ]

  after : (c : ℕ) (l : List ℕ) (d : ℕ) (m : List ℕ) → Falling sizes (c ∷ l) → c ≡ d → (x : ℕ) → Member x l → Member x (d ∷ m) → Member x m
  after c l d m f e x j k = elim k [ inl s ↦ absurd (not_itself sizes c (subst (λ (z : ℕ). is_earlier sizes c z ≡ true) (s ∙ sym e) (f.0 x j))) | inr i ↦ i ]

  falling_same : (l m : List ℕ) → Falling sizes l → Falling sizes m → ((d : ℕ) → Member d l ↔ Member d m) → l ≡ m
  falling_same [] [] f g h = refl
  falling_same [] (d ∷ m) f g h = absurd ((h d).1 (inl refl))
  falling_same (c ∷ l) [] f g h = absurd ((h c).0 (inl refl))
  falling_same (c ∷ l) (d ∷ m) f g h =
      let e = heads c l d m f g h in
      let rest = falling_same l m f.1 g.1 (λ x. (λ j. after c l d m f e x j ((h x).0 (inr j)), λ j. after d m c l g (sym e) x j ((h x).1 (inr j)))) in
      cc

  -- of the chains of a list, those that are given before one
  front_is : (c : ℕ) (l : List ℕ) (d : ℕ) → Member d (filter (λ x. is_earlier sizes x c) l) ↔ (Member d l × (is_earlier sizes d c ≡ true))
  front_is c [] d = (λ m. absurd m, λ p. absurd p.0)
  front_is c (x ∷ l) d = elim (cases_Bool (is_earlier sizes x c)) [
    | inl e ↦ rw e (
      λ m. elim m [ inl s ↦ (inl s, subst (λ (z : ℕ). is_earlier sizes z c ≡ true) (sym s) e) | inr j ↦ let p = (front_is c l d).0 j in (inr p.0, p.1) ],
      λ p. elim p.0 [ inl s ↦ inl s | inr j ↦ inr ((front_is c l d).1 (j, p.1)) ],
    )
    | inr e ↦ rw e (
      λ m. let p = (front_is c l d).0 m in (inr p.0, p.1),
      λ p. elim p.0 [ inl s ↦ absurd (true≢false (sym (subst (λ (z : ℕ). is_earlier sizes z c ≡ true) s p.1) ∙ e)) | inr j ↦ (front_is c l d).1 (j, p.1) ],
    )
  ]

  front_falling : (c : ℕ) (l : List ℕ) → Falling sizes l → Falling sizes (filter (λ x. is_earlier sizes x c) l)
  front_falling c [] f = tt
  front_falling c (x ∷ l) f = elim (cases_Bool (is_earlier sizes x c)) [
    | inl e ↦ rw e (λ d m. f.0 d ((front_is c l d).0 m).0, front_falling c l f.1)
    | inr e ↦ rw e (front_falling c l f.1)
  ]

  front_sum : (c : ℕ) (l : List ℕ) → sum_by (λ d. cond (is_earlier sizes d c) (at sizes d) 0) l ≡ sum_by (λ d. at sizes d) (filter (λ x. is_earlier sizes x c) l)
  front_sum c [] = refl
  front_sum c (x ∷ l) =
      let rest = front_sum c l in
      let split = sum_by-cons (λ d. cond (is_earlier sizes d c) (at sizes d) 0) x l in
      elim (cases_Bool (is_earlier sizes x c)) [
        | inl e ↦ split ∙ rw e (ap (λ (z : ℕ). at sizes x + z) rest ∙ sym (sum_by-cons (λ d. at sizes d) x (filter (λ y. is_earlier sizes y c) l)))
        | inr e ↦ split ∙ rw e (zero-add (sum_by (λ d. cond (is_earlier sizes d c) (at sizes d) 0) l) ∙ rest)
      ]

  -- a chain's place in the order, as a number that falls
  earlier_rank : (d c : ℕ) → d < length sizes → c < length sizes → is_earlier sizes d c ≡ true → (sum sizes - at sizes d) * length sizes + d < (sum sizes - at sizes c) * length sizes + c
  earlier_rank d c h k e =
      let a = get_or-le-sum_by (λ (x : ℕ). x) sizes d 0 h in
      elim (earlier_is sizes d c e) [
        | inl lt ↦
            let less : suc (sum sizes - at sizes d) ≤ sum sizes - at sizes c = omega arith in
            let scaled = mul-le-mul_right (length sizes) less in
            let one = suc-mul (sum sizes - at sizes d) (length sizes) in
            omega arith
        | inr p ↦
            let same : at sizes d ≡ at sizes c = p.0 in
            let lower : d < c = p.1 in
            subst (λ (z : ℕ). (sum sizes - z) * length sizes + d < (sum sizes - at sizes c) * length sizes + c) (sym same) (omega arith)
      ]

abbrev made : List ℕ → ℕ → Share
made l x = record { chains = l; load = x }

-- ---- two plans
module _ (sizes : List ℕ) (n : ℕ) (V W : List Share) (v : IsPlanOf sizes n V) (w : IsPlanOf sizes n W) where
  -- both give the chain to the same worker
  abbrev Same : ℕ → Type 0
  Same c = (i : ℕ) → Member c (chains_at V i) ↔ Member c (chains_at W i)

  lightest_one : (a b i j : ℕ) → IsLighter a i b j → IsLighter b j a i → i ≡ j
  lightest_one a b i j p q = elim p [
    | inl x ↦ elim q [ inl y ↦ omega arith | inr y ↦ let z = y.0 in omega arith ]
    | inr x ↦ let s = x.0 in let t = x.1 in elim q [ inl y ↦ omega arith | inr y ↦ let z = y.1 in omega arith ]
  ]

  before_one : (c : ℕ) → ((d : ℕ) → d < length sizes → is_earlier sizes d c ≡ true → Same d) → (i : ℕ) → load_before sizes V i c ≡ load_before sizes W i c
  before_one c f i =
      let fronts = falling_same sizes (filter (λ x. is_earlier sizes x c) (chains_at V i)) (filter (λ x. is_earlier sizes x c) (chains_at W i))
      (front_falling sizes c (chains_at V i) (v.falling i)) (front_falling sizes c (chains_at W i) (w.falling i))
      (λ d. (
        λ m. let p = (front_is sizes c (chains_at V i) d).0 m in (front_is sizes c (chains_at W i) d).1 ((f d (v.dealt.within i d p.0) p.1 i).0 p.0, p.1),
        λ m. let p = (front_is sizes c (chains_at W i) d).0 m in (front_is sizes c (chains_at V i) d).1 ((f d (w.dealt.within i d p.0) p.1 i).1 p.0, p.1),
      )) in
      front_sum sizes c (chains_at V i) ∙ ap (λ (l : List ℕ). sum_by (λ d. at sizes d) l) fronts ∙ sym (front_sum sizes c (chains_at W i))

  one_worker : (c i j : ℕ) → ((d : ℕ) → d < length sizes → is_earlier sizes d c ≡ true → Same d) → Member c (chains_at V i) → Member c (chains_at W j) → i ≡ j
  one_worker c i j f m k =
      let a = held_within V i c m in
      let b = held_within W j c k in
      let p = v.workers in
      let q = w.workers in
      lightest_one (load_before sizes V i c) (load_before sizes V j c) i j (v.least i j c (omega arith) m)
      (subst (λ (z : ℕ). IsLighter z j (load_before sizes V i c) i) (sym (before_one c f j)) (subst (λ (z : ℕ). IsLighter (load_before sizes W j c) j z i) (sym (before_one c f i)) (w.least j i c (omega arith) k)))

  same_from : (c : ℕ) → c < length sizes → ((d : ℕ) → d < length sizes → is_earlier sizes d c ≡ true → Same d) → Same c
  same_from c h f i = (
    λ m. let p = w.dealt.covered c h in subst (λ (z : ℕ). Member c (chains_at W z)) (sym (one_worker c i p.0 f m p.2)) p.2,
    λ m. let p = v.dealt.covered c h in subst (λ (z : ℕ). Member c (chains_at V z)) (one_worker c p.0 i f p.2 m) p.2,
  )

  all_same : (fuel c : ℕ) → c < length sizes → (sum sizes - at sizes c) * length sizes + c < fuel → Same c
  all_same zero c h lt = absurd (omega arith)
  all_same (suc fuel) c h lt = same_from c h (λ d k e. all_same fuel d k (let r = earlier_rank sizes d c k h e in omega arith))

  same_chains : (i : ℕ) → chains_at V i ≡ chains_at W i
  same_chains i = falling_same sizes (chains_at V i) (chains_at W i) (v.falling i) (w.falling i) (λ d. (
    λ m. (all_same (suc ((sum sizes - at sizes d) * length sizes + d)) d (v.dealt.within i d m) (omega arith) i).0 m,
    λ m. (all_same (suc ((sum sizes - at sizes d) * length sizes + d)) d (w.dealt.within i d m) (omega arith) i).1 m,
  ))

  same_share : (s t : Share) → s.chains ≡ t.chains → s.load ≡ t.load → s ≡ t
  same_share s t e f = ap (λ (l : List ℕ). made l s.load) e ∙ ap (λ (x : ℕ). made t.chains x) f

  same_shares : (i : ℕ) → share_at V i ≡ share_at W i
  same_shares i = same_share (share_at V i) (share_at W i) (same_chains i) (v.load i ∙ ap (λ (l : List ℕ). sum_by (λ c. at sizes c) l) (same_chains i) ∙ sym (w.load i))

  same_plan : V ≡ W
  same_plan = same_lists V W (v.workers ∙ sym w.workers) (λ k d h. get_or_default V k d no_share h ∙ same_shares k ∙ get_or_default W k no_share d (let p = v.workers in let q = w.workers in omega arith))

pub law_of_plans : LawOfPlans
law_of_plans sizes n V W v w = same_plan sizes n V W v w
