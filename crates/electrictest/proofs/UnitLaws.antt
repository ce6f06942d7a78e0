-- The units of the posts of a complete history are those of the tests of the set, each once.
use Rattle.std.proofs.Common.{◌≡◌, ℕ, ◌+◌, List, [], ◌∷◌, false, cond, nat_eq, sum_by, fold, refl, sym, ap, ◌∙◌, subst, arith, inl, inr}
use Rattle.std.proofs.lemmas.{Bool.eq-eqb, Bool.ne_eqb, List.Sums.sum_by-cons}
use Rattle.jvm_model.specs.declared.outcome.Outcome.{Outcome}
use Rattle.order_law.specs.Conflicts.{Member, Distinct}
use Rattle.order_law.specs.Plan as law
use Rattle.order_law.specs.Plan.{claim, post, Posted, PostsOnce, Ascending}
use Rattle.order_law.proofs.Posts.{posts_more, ascending_distinct}
use Rattle.run_core.specs.declared.events.{Event.Event, Event.TheVariants.Claim, Event.TheVariants.Post}
use Rattle.run_core.specs.Run.{Gave, told, history_of}
use Rattle.worker_pool.specs.Plans.{units_and, units_of}
use Rattle.electrictest.specs.{TestNames.units_in, PoolRuns.AreGiven, PoolRuns.outcomes}

-- ---- the units of a test, and of all posts

units_at : List law.Event → ℕ → ℕ
units_at [] t = 0
units_at (claim w c ∷ es) t = units_at es t
units_at (post w l u o ∷ es) t = cond (nat_eq u t) o.units (units_at es t)

all_units : List law.Event → ℕ
all_units [] = 0
all_units (claim w c ∷ es) = all_units es
all_units (post w l u o ∷ es) = o.units + all_units es

told_units : (e : Event) (n : ℕ) (es : List law.Event) → n ≡ all_units es → units_and n e ≡ all_units (told e ∷ es)
unfolding all_units
told_units (Claim w c) n es e = e
told_units (Post q) n es e = omega (arith, e)

counted_after : (n : ℕ) (es : List law.Event) (h : List Event) → n ≡ all_units es → fold units_and n h ≡ all_units (fold (λ (es : List law.Event) (e : Event). told e ∷ es) es h)
counted_after n es [] e = e
counted_after n es (x ∷ h) e = counted_after (units_and n x) (told x ∷ es) h (told_units x n es e)

-- ---- posts

posted_here : (es : List law.Event) (w t : ℕ) (l : List ℕ) (o : Outcome) → Posted (post w l t o ∷ es) t
posted_here es w t l o = (w, rw (eq-eqb w w refl) (inl refl))

posted_more : (e : law.Event) (es : List law.Event) (t : ℕ) → Posted es t → Posted (e ∷ es) t
posted_more e es t q = (q.0, posts_more e es q.0 t q.1)

gave_posted : (es : List law.Event) (t : ℕ) (o : Outcome) → Gave es t o → Posted es t
gave_posted [] t o g = absurd g
gave_posted (claim w c ∷ es) t o g = posted_more (claim w c) es t (gave_posted es t o g)
gave_posted (post w l u r ∷ es) t o (inl e) = subst (λ (z : ℕ). Posted (post w l u r ∷ es) z) e.0 (posted_here es w u l r)
gave_posted (post w l u r ∷ es) t o (inr g) = posted_more (post w l u r) es t (gave_posted es t o g)

none_at : (es : List law.Event) (t : ℕ) → (Posted es t → ⊥) → units_at es t ≡ 0
unfolding units_at
none_at [] t absent = refl
none_at (claim w c ∷ es) t absent = none_at es t (λ q. absent (posted_more (claim w c) es t q))
none_at (post w l u o ∷ es) t absent =
    let other : nat_eq u t ≡ false = ne_eqb u t (λ e. absent (subst (λ (z : ℕ). Posted (post w l u o ∷ es) z) e (posted_here es w u l o))) in
    rw other (none_at es t (λ q. absent (posted_more (post w l u o) es t q)))

gave_units : (C : List (List ℕ)) (es : List law.Event) (t : ℕ) (o : Outcome) → PostsOnce C es → Gave es t o → units_at es t ≡ o.units
unfolding units_at
gave_units C [] t o once g = absurd g
gave_units C (claim w c ∷ es) t o once g = gave_units C es t o once g
gave_units C (post w l u r ∷ es) t o once (inl e) = rw (eq-eqb u t e.0) (ap (λ (x : Outcome). x.units) e.1)
gave_units C (post w l u r ∷ es) t o once (inr g) =
    let other : nat_eq u t ≡ false = ne_eqb u t (λ e. once.0 (subst (λ (z : ℕ). Posted es z) (sym e) (gave_posted es t o g))) in
    rw other (gave_units C es t o once.2 g)

-- ---- sums

apart_sum : (f : ℕ → ℕ) (k u : ℕ) (set : List ℕ) → (Member u set → ⊥) → sum_by (λ t. cond (nat_eq u t) k (f t)) set ≡ sum_by f set
apart_sum f k u [] absent = refl
apart_sum f k u (t ∷ set) absent =
    let other : nat_eq u t ≡ false = ne_eqb u t (λ e. absent (inl e)) in
    let here : cond (nat_eq u t) k (f t) ≡ f t = rw other refl in
    let rest = apart_sum f k u set (λ m. absent (inr m)) in
    let a = sum_by-cons (λ t. cond (nat_eq u t) k (f t)) t set in
    let b = sum_by-cons f t set in
    omega (arith, a, b, here, rest)

point_sum : (f : ℕ → ℕ) (k u : ℕ) (set : List ℕ) → Distinct set → Member u set → f u ≡ 0 → sum_by (λ t. cond (nat_eq u t) k (f t)) set ≡ k + sum_by f set
point_sum f k u [] d m z = absurd m
point_sum f k u (t ∷ set) d (inl e) z =
    let here : cond (nat_eq u t) k (f t) ≡ k = rw (eq-eqb u t e) refl in
    let none : f t ≡ 0 = ap f (sym e) ∙ z in
    let rest = apart_sum f k u set (subst (λ (x : ℕ). Member x set → ⊥) (sym e) d.0) in
    let a = sum_by-cons (λ t. cond (nat_eq u t) k (f t)) t set in
    let b = sum_by-cons f t set in
    omega (arith, a, b, here, none, rest)
point_sum f k u (t ∷ set) d (inr m) z =
    let other : nat_eq u t ≡ false = ne_eqb u t (λ e. d.0 (subst (λ (x : ℕ). Member x set) e m)) in
    let here : cond (nat_eq u t) k (f t) ≡ f t = rw other refl in
    let rest = point_sum f k u set d.1 m z in
    let a = sum_by-cons (λ t. cond (nat_eq u t) k (f t)) t set in
    let b = sum_by-cons f t set in
    omega (arith, a, b, here, rest)

zero_sum : (set : List ℕ) → sum_by (units_at []) set ≡ 0
unfolding units_at
zero_sum [] = refl
zero_sum (t ∷ set) = zero_sum set

sum_of_posts : (C : List (List ℕ)) (es : List law.Event) (set : List ℕ) → Distinct set → PostsOnce C es → ((t : ℕ) → Posted es t → Member t set) → all_units es ≡ sum_by (units_at es) set
unfolding all_units units_at
sum_of_posts C [] set d once within = sym (zero_sum set)
sum_of_posts C (claim w c ∷ es) set d once within = sum_of_posts C es set d once (λ t q. within t (posted_more (claim w c) es t q))
sum_of_posts C (post w l u o ∷ es) set d once within =
    let rest = sum_of_posts C es set d once.2 (λ t q. within t (posted_more (post w l u o) es t q)) in
    let point = point_sum (units_at es) o.units u set d (within u (posted_here es w u l o)) (none_at es u once.0) in
    omega (arith, rest, point)

sum_of_given : (C : List (List ℕ)) (es : List law.Event) (ts : List ℕ) (xs : List (ℕ × Outcome)) → PostsOnce C es → AreGiven es ts xs → sum_by (units_at es) ts ≡ units_in (outcomes xs)
sum_of_given C es [] [] once g = refl
sum_of_given C es [] (x ∷ xs) once g = absurd g
sum_of_given C es (t ∷ ts) [] once g = absurd g
sum_of_given C es (t ∷ ts) (x ∷ xs) once g =
    let here = gave_units C es t x.1 once g.1 in
    let rest = sum_of_given C es ts xs once g.2 in
    let a = sum_by-cons (units_at es) t ts in
    omega (arith, a, here, rest)

-- what all posts count is what the tests of a set count, where all that is posted is of the set
pub units_of_posts : (C : List (List ℕ)) (h : List Event) (set : List ℕ) (xs : List (ℕ × Outcome)) → Ascending set → PostsOnce C (history_of h) → ((t : ℕ) → Posted (history_of h) t → Member t set) →
    AreGiven (history_of h) set xs → units_of h ≡ units_in (outcomes xs)
unfolding all_units
units_of_posts C h set xs a once within g = counted_after 0 [] h refl ∙ (sum_of_posts C (history_of h) set (ascending_distinct set a) once within ∙ sum_of_given C (history_of h) set xs once g)
