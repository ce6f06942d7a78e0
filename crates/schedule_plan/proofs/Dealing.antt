-- Shares, as chains are given to them.
use Rattle.std.proofs.Common.{◌≡◌, ◌⊎◌, ◌↔◌, ℕ, zero, suc, ◌+◌, ◌*◌, ◌<◌, ◌≤◌, true, cond, List, [], ◌∷◌, ◌++◌, length, take, sum, sum_by, refl, sym, ◌∙◌, ap, subst, inl, inr, arith}
use Rattle.std.proofs.lemmas.{Bool.cases_eq, Bool.cases_lt, Bool.cases_Bool, List.get_or-set_same, List.get_or-set_other, List.take_all, List.take_more}
use Rattle.std.proofs.lemmas.List.Sums.{sum_by-cons, sum_by_push, sum_by-set, sum_by_more, sum_by-take-le}
use Rattle.std.proofs.{Math.ListN.length-set, Math.Nat.mul-le-mul_left, Math.Nat.mul-add, Math.Nat.suc-mul}
use Rattle.order_law.specs.Conflicts.{Member}
use Rattle.order_law.proofs.Members.{member_left, member_right, member_either}
use Rattle.schedule_plan.specs.{declared.shares.Share.Share, Grouping.at}
use Rattle.schedule_plan.specs.Plans.{is_earlier, Falling, no_share, share_at, chains_at, load_at, load_before, IsLighter, IsPlanOf, AreBalanced, IsOrderOf, loads_of, with_chain, IsGiven, ArePlaced}
use Rattle.schedule_plan.proofs.Inserted.{not_itself, not_both, falling_distinct, falling_at}

-- ---- sums of the units of earlier chains
module _ (sizes : List ℕ) where
  abbrev counted : ℕ → ℕ → ℕ
  counted c d = cond (is_earlier sizes d c) (at sizes d) 0

  counted_yes : (c d : ℕ) → is_earlier sizes d c ≡ true → counted c d ≡ at sizes d
  counted_yes c d e = rw e refl

  counted_no : (c d : ℕ) → (is_earlier sizes d c ≡ true → ⊥) → counted c d ≡ 0
  counted_no c d f = elim (cases_Bool (is_earlier sizes d c)) [ inl e ↦ absurd (f e) | inr e ↦ rw e refl ]

  all_earlier : (c : ℕ) (l : List ℕ) → ((d : ℕ) → Member d l → is_earlier sizes d c ≡ true) → sum_by (λ d. cond (is_earlier sizes d c) (at sizes d) 0) l ≡ sum_by (λ d. at sizes d) l
  all_earlier c [] f = refl
  all_earlier c (d ∷ l) f = sum_by-cons (λ x. cond (is_earlier sizes x c) (at sizes x) 0) d l ∙ ap (λ (z : ℕ). z + sum_by (λ x. cond (is_earlier sizes x c) (at sizes x) 0) l) (counted_yes c d (f d (inl refl)))
      ∙ ap (λ (z : ℕ). at sizes d + z) (all_earlier c l (λ x m. f x (inr m))) ∙ sym (sum_by-cons (λ x. at sizes x) d l)

  one_later : (c d : ℕ) (l : List ℕ) → (is_earlier sizes d c ≡ true → ⊥) → sum_by (λ x. cond (is_earlier sizes x c) (at sizes x) 0) (l ++ (d ∷ [])) ≡ sum_by (λ x. cond (is_earlier sizes x c) (at sizes x) 0) l
  one_later c d l f = let p = sum_by_push (λ x. cond (is_earlier sizes x c) (at sizes x) 0) l d in let q = counted_no c d f in omega arith

  falling_more : (l : List ℕ) (c : ℕ) → Falling sizes l → ((d : ℕ) → Member d l → is_earlier sizes d c ≡ true) → Falling sizes (l ++ (c ∷ []))
  falling_more [] c f g = (λ d m. absurd m, tt)
  falling_more (y ∷ l) c f g = (
    λ d m. elim (member_either l (c ∷ []) d m) [ inl a ↦ f.0 d a | inr b ↦ elim b [ inl e ↦ subst (λ (z : ℕ). is_earlier sizes y z ≡ true) (sym e) (g y (inl refl)) | inr z ↦ absurd z ] ],
    falling_more l c f.1 (λ d m. g d (inr m)),
  )

each_least : (W : List Share) (a : ℕ) → ((v : ℕ) → v < length W → a ≤ load_at W v) → length W * a ≤ loads_of W
each_least [] a f = omega arith
each_least (s ∷ W) a f =
    let here : a ≤ s.load = f 0 (omega arith) in
    let rest = each_least W a (λ v h. f (suc v) (omega arith)) in
    let split = sum_by-cons (λ (x : Share). x.load) s W in
    let one = suc-mul (length W) a in
    omega arith

pub held_within : (W : List Share) (w d : ℕ) → Member d (chains_at W w) → w < length W
held_within [] w d m = absurd m
held_within (s ∷ W) zero d m = omega arith
held_within (s ∷ W) (suc w) d m = let x = held_within W w d m in omega arith

-- ---- one more chain
module _ (sizes o : List ℕ) (n c : ℕ) (W N : List Share) (is : ArePlaced sizes o n W) (later : (d : ℕ) → Member d o → is_earlier sizes d c ≡ true) (g : IsGiven W c (at sizes c) N) where
  within : g.worker < length W
  within = g.least.within

  share_here : share_at N g.worker ≡ with_chain (share_at W g.worker) c (at sizes c)
  share_here = ap (λ (V : List Share). share_at V g.worker) g.after ∙ get_or-set_same W g.worker (with_chain (share_at W g.worker) c (at sizes c)) no_share within

  share_other : (w : ℕ) → (w ≡ g.worker → ⊥) → share_at N w ≡ share_at W w
  share_other w f = ap (λ (V : List Share). share_at V w) g.after ∙ get_or-set_other W g.worker w (with_chain (share_at W g.worker) c (at sizes c)) no_share f

  chains_here : chains_at N g.worker ≡ chains_at W g.worker ++ (c ∷ [])
  chains_here = ap (λ (s : Share). s.chains) share_here

  chains_other : (w : ℕ) → (w ≡ g.worker → ⊥) → chains_at N w ≡ chains_at W w
  chains_other w f = ap (λ (s : Share). s.chains) (share_other w f)

  long : length N ≡ length W
  long = ap (λ (V : List Share). length V) g.after ∙ length-set W g.worker (with_chain (share_at W g.worker) c (at sizes c))

  in_order : (w d : ℕ) → Member d (chains_at W w) → Member d o
  in_order w d m = (is.exact d).1 (w, held_within W w d m, m)

  was : (w d : ℕ) → Member d (chains_at N w) → Member d (chains_at W w) ⊎ ((w ≡ g.worker) × (d ≡ c))
  was w d m = elim (cases_eq w g.worker) [
    | inl e ↦ elim (member_either (chains_at W g.worker) (c ∷ []) d (subst (λ (l : List ℕ). Member d l) chains_here (subst (λ (z : ℕ). Member d (chains_at N z)) e m))) [
      | inl a ↦ inl (subst (λ (z : ℕ). Member d (chains_at W z)) (sym e) a)
      | inr b ↦ elim b [ inl s ↦ inr (e, s) | inr z ↦ absurd z ]
    ]
    | inr f ↦ inl (subst (λ (l : List ℕ). Member d l) (chains_other w f) m)
  ]

  stays : (w d : ℕ) → Member d (chains_at W w) → Member d (chains_at N w)
  stays w d m = elim (cases_eq w g.worker) [
    | inl e ↦ subst (λ (z : ℕ). Member d (chains_at N z)) (sym e) (subst (λ (l : List ℕ). Member d l) (sym chains_here) (member_left (chains_at W g.worker) (c ∷ []) d (subst (λ (z : ℕ). Member d (chains_at W z)) e m)))
    | inr f ↦ subst (λ (l : List ℕ). Member d l) (sym (chains_other w f)) m
  ]

  is_there : Member c (chains_at N g.worker)
  is_there = subst (λ (l : List ℕ). Member c l) (sym chains_here) (member_right (chains_at W g.worker) (c ∷ []) c (inl refl))

  exactly : (d : ℕ) → Member d (o ++ (c ∷ [])) ↔ ((w : ℕ) × (w < length N) × Member d (chains_at N w))
  exactly d = (
    λ m. elim (member_either o (c ∷ []) d m) [
      | inl a ↦ let p = (is.exact d).0 a in (p.0, subst (λ (z : ℕ). p.0 < z) (sym long) p.1, stays p.0 d p.2)
      | inr b ↦ elim b [ inl e ↦ (g.worker, subst (λ (z : ℕ). g.worker < z) (sym long) within, subst (λ (z : ℕ). Member z (chains_at N g.worker)) (sym e) is_there) | inr z ↦ absurd z ]
    ],
    λ p. elim (was p.0 d p.2) [ inl a ↦ member_left o (c ∷ []) d (in_order p.0 d a) | inr b ↦ member_right o (c ∷ []) d (inl b.1) ],
  )

  not_yet : (w d : ℕ) → Member d (chains_at W w) → d ≡ c → ⊥
  not_yet w d m e = not_itself sizes c (subst (λ (z : ℕ). is_earlier sizes z c ≡ true) e (later d (in_order w d m)))

  once : (w v d : ℕ) → Member d (chains_at N w) → Member d (chains_at N v) → w ≡ v
  once w v d m k = elim (was w d m) [
    | inl a ↦ elim (was v d k) [ inl b ↦ is.apart w v d a b | inr b ↦ absurd (not_yet w d a b.1) ]
    | inr a ↦ elim (was v d k) [ inl b ↦ absurd (not_yet v d b a.1) | inr b ↦ a.0 ∙ sym b.0 ]
  ]

  still_falling : (w : ℕ) → Falling sizes (chains_at N w)
  still_falling w = elim (cases_eq w g.worker) [
    | inl e ↦ subst (λ (z : ℕ). Falling sizes (chains_at N z)) (sym e) (subst (λ (l : List ℕ). Falling sizes l) (sym chains_here) (falling_more sizes (chains_at W g.worker) c (is.falling g.worker) (λ d m. later d (in_order g.worker d m))))
    | inr f ↦ subst (λ (l : List ℕ). Falling sizes l) (sym (chains_other w f)) (is.falling w)
  ]

  loads : (w : ℕ) → load_at N w ≡ sum_by (λ d. at sizes d) (chains_at N w)
  loads w = elim (cases_eq w g.worker) [
    | inl e ↦ subst (λ (z : ℕ). load_at N z ≡ sum_by (λ d. at sizes d) (chains_at N z)) (sym e)
        (ap (λ (s : Share). s.load) share_here ∙ ap (λ (z : ℕ). z + at sizes c) (is.load g.worker) ∙ sym (sum_by_push (λ d. at sizes d) (chains_at W g.worker) c) ∙ ap (λ (l : List ℕ). sum_by (λ d. at sizes d) l) (sym chains_here))
    | inr f ↦ ap (λ (s : Share). s.load) (share_other w f) ∙ is.load w ∙ ap (λ (l : List ℕ). sum_by (λ d. at sizes d) l) (sym (chains_other w f))
  ]

  -- what a worker has before a chain that c isn't given before
  before_same : (d v : ℕ) → (is_earlier sizes c d ≡ true → ⊥) → load_before sizes N v d ≡ load_before sizes W v d
  before_same d v f = elim (cases_eq v g.worker) [
    | inl e ↦ subst (λ (z : ℕ). load_before sizes N z d ≡ load_before sizes W z d) (sym e)
        (ap (λ (l : List ℕ). sum_by (λ x. cond (is_earlier sizes x d) (at sizes x) 0) l) chains_here ∙ one_later sizes d c (chains_at W g.worker) f)
    | inr h ↦ ap (λ (l : List ℕ). sum_by (λ x. cond (is_earlier sizes x d) (at sizes x) 0) l) (chains_other v h)
  ]

  -- what a worker has when c is given
  load_then : (v : ℕ) → load_before sizes N v c ≡ load_at W v
  load_then v = before_same c v (not_itself sizes c) ∙ all_earlier sizes c (chains_at W v) (λ d m. later d (in_order v d m)) ∙ sym (is.load v)

  lighter : (v : ℕ) → v < n → IsLighter (load_at W g.worker) g.worker (load_at W v) v
  lighter v h = elim (cases_lt v g.worker) [
    | inl lt ↦ inl (g.least.lower v lt)
    | inr ge ↦
        let workers = is.workers in
        let le = g.least.upper v ge (omega arith) in
        elim (cases_eq (load_at W g.worker) (load_at W v)) [ inl e ↦ inr (e, ge) | inr f ↦ inl (omega arith) ]
  ]

  lightest : (w v d : ℕ) → v < n → Member d (chains_at N w) → IsLighter (load_before sizes N w d) w (load_before sizes N v d) v
  lightest w v d h m = elim (was w d m) [
    | inl a ↦
        let not_earlier = (λ (e : is_earlier sizes c d ≡ true). not_both sizes c d e (later d (in_order w d a))) in
        subst (λ (x : ℕ). IsLighter x w (load_before sizes N v d) v) (sym (before_same d w not_earlier))
        (subst (λ (x : ℕ). IsLighter (load_before sizes W w d) w x v) (sym (before_same d v not_earlier)) (is.least w v d h a))
    | inr b ↦ subst (λ (z : ℕ). IsLighter (load_before sizes N z d) z (load_before sizes N v d) v) (sym b.0) (subst (λ (z : ℕ). IsLighter (load_before sizes N g.worker z) g.worker (load_before sizes N v z) v) (sym b.1)
        (subst (λ (x : ℕ). IsLighter x g.worker (load_before sizes N v c) v) (sym (load_then g.worker)) (subst (λ (x : ℕ). IsLighter (load_at W g.worker) g.worker x v) (sym (load_then v)) (lighter v h))))
  ]

  all_loads : loads_of N ≡ loads_of W + at sizes c
  all_loads =
      let e = sum_by-set (λ (s : Share). s.load) W g.worker (with_chain (share_at W g.worker) c (at sizes c)) no_share within in
      let f = ap loads_of g.after in
      omega arith

  totals : loads_of N ≡ sum_by (λ d. at sizes d) (o ++ (c ∷ []))
  totals = all_loads ∙ ap (λ (z : ℕ). z + at sizes c) is.total ∙ sym (sum_by_push (λ d. at sizes d) o c)

  least_of_all : (v : ℕ) → v < length W → load_at W g.worker ≤ load_at W v
  least_of_all v h = elim (cases_lt v g.worker) [ inl lt ↦ let x = g.least.lower v lt in omega arith | inr ge ↦ g.least.upper v ge h ]

  still_balanced : (most : ℕ) → ((d : ℕ) → Member d (o ++ (c ∷ [])) → at sizes d ≤ most) → (w : ℕ) → n * load_at N w ≤ sum_by (λ d. at sizes d) (o ++ (c ∷ [])) + n * most
  still_balanced most f w =
      let push = sum_by_push (λ d. at sizes d) o c in
      elim (cases_eq w g.worker) [
        | inl e ↦
            let small : at sizes c ≤ most = f c (member_right o (c ∷ []) c (inl refl)) in
            let mean = each_least W (load_at W g.worker) least_of_all in
            let total = is.total in
            let scaled = mul-le-mul_left n small in
            let workers = is.workers in
            let mean_n : n * load_at W g.worker ≤ loads_of W = subst (λ (z : ℕ). z * load_at W g.worker ≤ loads_of W) workers mean in
            let here : load_at N w ≡ load_at W g.worker + at sizes c = subst (λ (z : ℕ). load_at N z ≡ load_at W g.worker + at sizes c) (sym e) (ap (λ (s : Share). s.load) share_here) in
            let split = mul-add n (load_at W g.worker) (at sizes c) in
            rw (here, split) (omega arith)
        | inr h ↦
            let old = is.balanced most (λ d m. f d (member_left o (c ∷ []) d m)) w in
            let same : load_at N w ≡ load_at W w = ap (λ (s : Share). s.load) (share_other w h) in
            rw same (omega arith)
      ]

  pub placed_next : ArePlaced sizes (o ++ (c ∷ [])) n N
  placed_next = record {
    workers = long ∙ is.workers;
    exact = exactly;
    apart = once;
    falling = still_falling;
    load = loads;
    least = lightest;
    total = totals;
    balanced = still_balanced;
  }

-- ---- the next chain of the order, and all
pub placed_more : (sizes o : List ℕ) (i n : ℕ) (W N : List Share) → Falling sizes o → i < length o → ArePlaced sizes (take i o) n W → IsGiven W (at o i) (at sizes (at o i)) N → ArePlaced sizes (take (i + 1) o) n N
placed_more sizes o i n W N f h is g = subst (λ (l : List ℕ). ArePlaced sizes l n N) (sym (take_more o i 0 h)) (placed_next sizes (take i o) n (at o i) W N is (λ d m. falling_at sizes o i d f h m) g)

pub placed_all : (sizes o : List ℕ) (i n : ℕ) (W : List Share) → length o ≤ i → ArePlaced sizes (take i o) n W → ArePlaced sizes o n W
placed_all sizes o i n W h is = subst (λ (l : List ℕ). ArePlaced sizes l n W) (take_all i o h) is

order_total : (sizes o : List ℕ) → IsOrderOf sizes (length sizes) o → sum_by (λ c. at sizes c) o ≡ sum sizes
order_total sizes o r = r.total ∙ ap (λ (l : List ℕ). sum l) (take_all (length sizes) sizes (omega arith))

-- all loads stay within the units of all chains
pub loads_within : (sizes o : List ℕ) (i n : ℕ) (W : List Share) → IsOrderOf sizes (length sizes) o → i < length o → ArePlaced sizes (take i o) n W → loads_of W + at sizes (at o i) ≤ sum sizes
loads_within sizes o i n W r h is =
    let a = sum_by_more (λ c. at sizes c) o i 0 h in
    let b = sum_by-take-le (λ c. at sizes c) o (i + 1) in
    let t = is.total in
    let e = order_total sizes o r in
    omega arith

-- ---- all chains
plan_from : (sizes o : List ℕ) (n : ℕ) (W : List Share) → IsOrderOf sizes (length sizes) o → ArePlaced sizes o n W → IsPlanOf sizes n W
plan_from sizes o n W r is = record {
  workers = is.workers;
  dealt = record {
    within = λ w c m. (r.exact c).0 ((is.exact c).1 (w, held_within W w c m, m));
    covered = λ c h. (is.exact c).0 ((r.exact c).1 h);
    apart = is.apart;
    once = λ w. falling_distinct sizes (chains_at W w) (is.falling w);
  };
  falling = is.falling;
  load = is.load;
  least = is.least;
}

balanced_from : (sizes o : List ℕ) (n : ℕ) (W : List Share) → IsOrderOf sizes (length sizes) o → ArePlaced sizes o n W → AreBalanced sizes n W
balanced_from sizes o n W r is most f w =
    let b = is.balanced most (λ c m. f c ((r.exact c).0 m)) w in
    let e = order_total sizes o r in
    omega arith

-- the plan, of what the code has: slices of these lists
pub plan_of : (sizes s t o d : List ℕ) (n : ℕ) (W V : List Share) → s ≡ sizes → t ≡ sizes → d ≡ o → V ≡ W → IsOrderOf s (length s) o → ArePlaced t d n W → IsPlanOf sizes n V × AreBalanced sizes n V
plan_of sizes s t o d n W V e f g h r is =
    let order = subst (λ (l : List ℕ). IsOrderOf l (length l) o) e r in
    let placed = subst (λ (l : List ℕ). ArePlaced sizes l n W) g (subst (λ (l : List ℕ). ArePlaced l d n W) f is) in
    (subst (λ (X : List Share). IsPlanOf sizes n X) (sym h) (plan_from sizes o n W order placed), subst (λ (X : List Share). AreBalanced sizes n X) (sym h) (balanced_from sizes o n W order placed))
