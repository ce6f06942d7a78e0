-- Why the run of what is left ends: what a worker posts next isn't refused, and where no chain can be claimed all is posted.
use Rattle.std.proofs.Common.{◌≡◌, ℕ, ◌+◌, ◌-◌, ◌<◌, ◌≤◌, List, [], ◌∷◌, ◌++◌, length, length-append, reverse, slice_get, Bool, true, false, refl, sym, ◌∙◌, ap, subst, inl, inr, arith, true≢false}
use Rattle.std.proofs.lemmas.Bool.{cases_lt}
use lib.ListN.{get_or-eq_default}
use Rattle.order_law.specs.{Conflicts.Member, RecordForm.are_chains}
use Rattle.order_law.specs.Plan as law
use Rattle.order_law.proofs.Posts.{of_cons, member_mid, reversed, law_of_histories, forms_apart}
use Rattle.test_run.specs.Running.{Posted}
use Rattle.run_core.specs.declared.events.{Event.TheVariants.Claim, Event.TheVariants.Post, Refused.Refused}
use Rattle.run_core.specs.declared.events.Refused.TheVariants.{InHand, Taken, Idle, NotNext, OtherList}
use Rattle.run_core.specs.Refusal.{HasNone, HasOpen, IsRefused}
use Rattle.run_core.specs.Run.{Run, IsLegal, IsComplete, IsWorker, history, most_events}
use Rattle.run_core.proofs.Kept.{claimed_range}
use Rattle.worker_pool.specs.Progress.{AllHaveNone, IsNextPost, IsOneMore, MayPost}

-- a worker that has a chain in hand doesn't have none
open_one : (C : List (List ℕ)) (es : List law.Event) (w i t : ℕ) → HasOpen C es w i t → HasNone C es w → ⊥
open_one C es w i t x none = x.next.open_yet (none i t (rw x.claimed (inl refl)) (rw x.next.split (member_mid x.next.front t x.next.rest)))

module _ (r : Run) (form : are_chains r.chains ≡ true) (l : IsLegal r) where
  one_open : (w i j t u : ℕ) → HasOpen r.chains (history r) w i t → HasOpen r.chains (history r) w j u → t ≡ u
  one_open w i j t u x y =
      let same : j ≡ i = (of_cons (sym y.claimed ∙ x.claimed)).0 in
      let h = law_of_histories r.program r.chains r.workers (history r) (forms_apart r.chains form) l in
      h.one_next i t u x.next (subst (λ (z : ℕ). law.NextOf (history r) (law.chain_at r.chains z) u) same y.next)

  pub never_refused : (w i t : ℕ) (q : Posted) (why : Refused) → HasOpen r.chains (history r) w i t → IsNextPost r w t q → IsRefused r.chains (history r) (Post q) why → ⊥
  never_refused w i t q Idle x is none = open_one r.chains (history r) w i t x (subst (λ (z : ℕ). HasNone r.chains (history r) z) is.0 none)
  never_refused w i t q (NotNext u) x is (j, y, other) =
      let same = one_open w i j t u x (subst (λ (z : ℕ). HasOpen r.chains (history r) z j u) is.0 y) in
      let before = reverse (law.posts (history r) w) in
      other (before, is.2 ∙ ap (λ (z : ℕ). before ++ (z ∷ [])) same)
  never_refused w i t q (OtherList k) x is (j, u, y, ends, differ) =
      let same = one_open w i j t u x (subst (λ (z : ℕ). HasOpen r.chains (history r) z j u) is.0 y) in
      let list : q.list ≡ law.list_of (history r) q.worker u =
      is.2 ∙ sym (reversed t (law.posts (history r) w)) ∙ ap (λ (z : ℕ). law.list_of (history r) w z) same ∙ ap (λ (z : ℕ). law.list_of (history r) z u) (sym is.0) in
      differ.1 (ap (λ (z : List ℕ). slice_get z k) list)
  never_refused w i t q (InHand d) x is bad = absurd bad
  never_refused w i t q (Taken v) x is bad = absurd bad

-- a claim that is refused to a worker that has none is of a chain that was claimed
pub claimed_before : (C : List (List ℕ)) (es : List law.Event) (w c : ℕ) (why : Refused) → HasNone C es w → IsRefused C es (Claim w c) why → (v : ℕ) × Member (c - 1) (law.claims es v)
claimed_before C es w c (InHand d) none (some, t, x) = absurd (open_one C es w (d - 1) t x none)
claimed_before C es w c (Taken v) none x = (v, x.1)
claimed_before C es w c Idle none bad = absurd bad
claimed_before C es w c (NotNext t) none bad = absurd bad
claimed_before C es w c (OtherList k) none bad = absurd bad

-- where all chains were claimed and none is in hand, all is posted
pub all_claimed : (r : Run) → IsLegal r → AllHaveNone r → ((i : ℕ) → i < length r.chains → (v : ℕ) × Member i (law.claims (history r) v)) → IsComplete r
all_claimed r l none by i t m = elim (cases_lt i (length r.chains)) [
  | inl lt ↦
      let c = by i lt in
      let range = claimed_range r.program r.chains r.workers (history r) c.0 i l c.1 in
      none c.0 (range.0, range.1) i t c.1 m
  | inr ge ↦ absurd (subst (λ (z : List ℕ). Member t z) (get_or-eq_default r.chains [] ge) m)
]

-- ---- one round
pub one_from : (r t s : Run) → t ≡ r → IsOneMore t s → IsOneMore r s
one_from r t s same one = subst (λ (z : Run). IsOneMore z s) same one

abbrev AreClaimed : Run → ℕ → Type 0
AreClaimed r k = (i : ℕ) → i < k → (v : ℕ) × Member i (law.claims (history r) v)

-- a claim that is refused leaves all as it was, and its chain was claimed
pub claimed_more : (r t s : Run) (k : ℕ) (why : Refused) → 0 < r.workers → AllHaveNone r → t ≡ r → IsRefused t.chains (history t) (Claim 1 (k + 1)) why → s ≡ t → AreClaimed r k
    → (s ≡ r) × AreClaimed r (k + 1)
claimed_more r t s k why some none same refused stays by =
    let first : IsWorker r 1 = ((omega arith), (omega arith)) in
    let here = claimed_before r.chains (history r) 1 (k + 1) why (none 1 first) (subst (λ (z : Run). IsRefused z.chains (history z) (Claim 1 (k + 1)) why) same refused) in (
      stays ∙ same,
      λ i h. elim (cases_lt i k) [
        | inl lt ↦ by i lt
        | inr ge ↦ let at : k + 1 - 1 ≡ i = omega arith in (here.0, subst (λ (z : ℕ). Member z (law.claims (history r) here.0)) at here.1)
      ],
    )

pub posted_one : (r t s : Run) (w : ℕ) (b : Bool) → t ≡ r → MayPost t s w b → b ≡ true → IsOneMore r s
posted_one r t s w true same p f = one_from r t s same p
posted_one r t s w false same p f = absurd (true≢false (sym f))

-- the workers up to one have no chain in hand
abbrev HaveNone : Run → ℕ → Type 0
HaveNone r k = (w : ℕ) → 0 < w → w ≤ k → HasNone r.chains (history r) w

pub none_more : (r t s : Run) (k : ℕ) (b : Bool) → t ≡ r → MayPost t s (k + 1) b → b ≡ false → HaveNone r k → (s ≡ r) × HaveNone r (k + 1)
none_more r t s k true same p f before = absurd (true≢false f)
none_more r t s k false same p f before =
    let here = subst (λ (z : Run). HasNone z.chains (history z) (k + 1)) same p.1 in (
      p.0 ∙ same,
      λ w some h. elim (cases_lt k w) [
        | inl last ↦ let at : k + 1 ≡ w = omega arith in subst (λ (z : ℕ). HasNone r.chains (history r) z) at here
        | inr le ↦ before w some le
      ],
    )

-- none of the workers has one in hand
pub all_none : (r t : Run) (k : ℕ) → t ≡ r → HaveNone r k → r.workers ≤ k → AllHaveNone t
all_none r t k same none all =
    let here : AllHaveNone r = λ w x. none w x.0 (omega (arith, x.1, all)) in
    subst (λ (z : Run). AllHaveNone z) (sym same) here

-- a round leaves fewer events to come
pub fewer_left : (r s : Run) → IsOneMore r s → length s.events ≤ most_events s.chains → most_events s.chains - length s.events < most_events r.chains - length r.events
fewer_left r s one few =
    let chains : most_events s.chains ≡ most_events r.chains = ap (λ (z : Run). most_events z.chains) one.1 in
    let longer : length s.events ≡ length r.events + 1 = ap (λ (z : Run). length z.events) one.1 ∙ length-append r.events (one.0 ∷ []) in
    omega (arith, chains, longer, few)
