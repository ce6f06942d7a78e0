-- Texts by names with changes: a look-up, and one more change.
use Rattle.std.proofs.Common.{◌≡◌, ℕ, List, [], ◌∷◌, true, false, ◌||◌, cond, Option, Some, None, Result, Ok, Err, OnOk, OnErr, MatchOption, Bor, refl, sym, ap, ◌∙◌, inl, inr}
use Rattle.std.specs.Str.{bytes_eq}
use Rattle.std.proofs.lemmas.Bool.{cases_Bool, false_from_ne_true}
use Rattle.et_base.proofs.Texts.{units_true, units_refl}
use Rattle.jvm_model.specs.World.{look, keep}
use Rattle.sim_store.specs.{Stored.Stored, Stored.Named, Parts.in_part, Parts.with_part}
use Rattle.sim_store.specs.declared.store.{Part.Part, Part.TheVariants.File, Part.TheVariants.Prop}
use Rattle.vm_heap.specs.Changes.{changed_by, is_named, AreApart, Changing}

other_name : (m n k : List ℕ) → bytes_eq m k ≡ true → bytes_eq n m ≡ false → bytes_eq n k ≡ false
other_name m n k e h = let q = units_true m k e in ap (bytes_eq n) (sym q) ∙ h

look_keep : (es : List Named) (m n : List ℕ) (v : Option (List ℕ)) → look bytes_eq None (keep bytes_eq es m v) n ≡ cond (bytes_eq n m) v (look bytes_eq None es n)
look_keep [] m n v = refl
look_keep (e ∷ es) m n v = elim (cases_Bool (bytes_eq m e.0)) [
  | inl a ↦ let q = units_true m e.0 a in rw (a, q) (elim (bytes_eq n e.0) as (λ b. cond b v (look bytes_eq None es n) ≡ cond b v (cond b e.1 (look bytes_eq None es n))) [ true ↦ refl | false ↦ refl ])
  | inr a ↦ elim (cases_Bool (bytes_eq n e.0)) [
    | inl b ↦ let q = units_true n e.0 b in let r : bytes_eq n m ≡ false = false_from_ne_true (bytes_eq n m) (λ t. let s = units_true n m t in let u : bytes_eq m e.0 ≡ true = ap (λ y. bytes_eq y e.0) (sym s) ∙ b in (cc)) in rw (a, b, r) refl
    | inr b ↦ rw (a, b) (look_keep es m n v)
  ]
]

named_keep : (es : List Named) (m n : List ℕ) (v : Option (List ℕ)) → bytes_eq n m ≡ false → is_named n (keep bytes_eq es m v) ≡ is_named n es
named_keep [] m n v h = rw h refl
named_keep (e ∷ es) m n v h = elim (cases_Bool (bytes_eq m e.0)) [
  | inl a ↦ rw a refl
  | inr a ↦ rw a (ap (λ b. bytes_eq n e.0 || b) (named_keep es m n v h))
]

pub apart_keep : (es : List Named) (n : List ℕ) (v : Option (List ℕ)) → AreApart es → AreApart (keep bytes_eq es n v)
apart_keep [] n v h = (refl, tt)
apart_keep (e ∷ es) n v h = elim (cases_Bool (bytes_eq n e.0)) [
  | inl a ↦ rw a h
  | inr a ↦ let b : bytes_eq e.0 n ≡ false = false_from_ne_true (bytes_eq e.0 n) (λ t. let s = units_true e.0 n t in let u : bytes_eq n e.0 ≡ true = ap (λ y. bytes_eq y e.0) (sym s) ∙ units_refl e.0 in (cc)) in
      rw a (named_keep es n e.0 v b ∙ h.0, apart_keep es n v h.1)
]

keep_again : (es : List Named) (n : List ℕ) (u v : Option (List ℕ)) → keep bytes_eq (keep bytes_eq es n u) n v ≡ keep bytes_eq es n v
keep_again [] n u v = rw (units_refl n) refl
keep_again (e ∷ es) n u v = elim (cases_Bool (bytes_eq n e.0)) [
  | inl a ↦ rw (a, a) refl
  | inr a ↦ rw (a, a) (ap (λ t. e ∷ t) (keep_again es n u v))
]

keep_swapped : (es : List Named) (m n : List ℕ) (u v : Option (List ℕ)) → is_named n es ≡ true → bytes_eq n m ≡ false → keep bytes_eq (keep bytes_eq es m u) n v ≡ keep bytes_eq (keep bytes_eq es n v) m u
keep_swapped [] m n u v h d = absurd (cc)
keep_swapped (e ∷ es) m n u v h d = elim (cases_Bool (bytes_eq m e.0)) [
  | inl a ↦ let b = other_name m n e.0 a d in rw (a, b, a) refl
  | inr a ↦ elim (cases_Bool (bytes_eq n e.0)) [
    | inl b ↦ rw (a, b, a) refl
    | inr b ↦ let r = rw b at h in rw (a, b, a) (ap (λ t. e ∷ t) (keep_swapped es m n u v r d))
  ]
]

named_kept : (es : List Named) (m n : List ℕ) (v : Option (List ℕ)) → is_named n es ≡ true → is_named n (keep bytes_eq es m v) ≡ true
named_kept [] m n v h = absurd (cc)
named_kept (e ∷ es) m n v h = elim (cases_Bool (bytes_eq m e.0)) [
  | inl a ↦ rw a h
  | inr a ↦ elim (cases_Bool (bytes_eq n e.0)) [
    | inl b ↦ rw (a, b) refl
    | inr b ↦ let r = rw b at h in rw (a, b) (named_kept es m n v r)
  ]
]

named_itself : (es : List Named) (n : List ℕ) (v : Option (List ℕ)) → is_named n (keep bytes_eq es n v) ≡ true
named_itself [] n v = rw (units_refl n) refl
named_itself (e ∷ es) n v = elim (cases_Bool (bytes_eq n e.0)) [ inl a ↦ rw (a, a) refl | inr a ↦ rw (a, a) (named_itself es n v) ]

-- a change at a name that no later change has
past_changes : (xs es : List Named) (n : List ℕ) (v : Option (List ℕ)) → is_named n xs ≡ true → is_named n es ≡ false → keep bytes_eq (changed_by xs es) n v ≡ changed_by (keep bytes_eq xs n v) es
past_changes xs [] n v h d = refl
past_changes xs (e ∷ es) n v h d = elim (cases_Bool (bytes_eq n e.0)) [
  | inl b ↦ absurd (let r = rw b at d in (cc))
  | inr b ↦ let r = rw b at d in past_changes (keep bytes_eq xs e.0 e.1) es n v (named_kept xs e.0 n e.1 h) r ∙ ap (λ t. changed_by t es) (keep_swapped xs e.0 n e.1 v h b)
]

-- one more change
pub keep_changed : (xs es : List Named) (n : List ℕ) (v : Option (List ℕ)) → AreApart es → changed_by xs (keep bytes_eq es n v) ≡ keep bytes_eq (changed_by xs es) n v
keep_changed xs [] n v h = refl
keep_changed xs (e ∷ es) n v h = elim (cases_Bool (bytes_eq n e.0)) [
  | inl a ↦ let q = units_true n e.0 a in
      let d : is_named n es ≡ false = ap (λ y. is_named y es) q ∙ h.0 in
      let p : is_named n (keep bytes_eq xs e.0 e.1) ≡ true = ap (λ y. is_named y (keep bytes_eq xs e.0 e.1)) q ∙ named_itself xs e.0 e.1 in
      let k : keep bytes_eq (keep bytes_eq xs e.0 e.1) n v ≡ keep bytes_eq xs e.0 v = ap (λ y. keep bytes_eq (keep bytes_eq xs e.0 e.1) y v) q ∙ keep_again xs e.0 e.1 v in
      rw a (sym (past_changes (keep bytes_eq xs e.0 e.1) es n v p d ∙ ap (λ t. changed_by t es) k))
  | inr a ↦ rw a (keep_changed (keep bytes_eq xs e.0 e.1) es n v h.1)
]

-- what is found is the last change, or what stood there
pub look_changed : (xs es : List Named) (n : List ℕ) → AreApart es → look bytes_eq None (changed_by xs es) n ≡ cond (is_named n es) (look bytes_eq None es n) (look bytes_eq None xs n)
look_changed xs [] n h = refl
look_changed xs (e ∷ es) n h =
    look_changed (keep bytes_eq xs e.0 e.1) es n h.1 ∙ ap (cond (is_named n es) (look bytes_eq None es n)) (look_keep xs e.0 n e.1)
    ∙ (elim (cases_Bool (bytes_eq n e.0)) [
      | inl a ↦ let q = units_true n e.0 a in let d : is_named n es ≡ false = ap (λ y. is_named y es) q ∙ h.0 in rw (a, d) refl
      | inr a ↦ rw a refl
    ])

abbrev pub now_of : Stored → Stored → Stored
now_of o c = record { files = changed_by o.files c.files; props = changed_by o.props c.props }

abbrev pub changing : Stored → Stored → Changing
changing o c = record { opening = o; now = now_of o c }

abbrev pub AreBothApart : Stored → Type 0
AreBothApart c = AreApart c.files × AreApart c.props

pub found_changed : (part : Part) (o c : Stored) (n : List ℕ) → AreBothApart c →
    look bytes_eq None (in_part part (now_of o c)) n ≡ cond (is_named n (in_part part c)) (look bytes_eq None (in_part part c) n) (look bytes_eq None (in_part part o) n)
found_changed File o c n h = look_changed o.files c.files n h.0
found_changed Prop o c n h = look_changed o.props c.props n h.1

pub relent : {A : Type 0} (r : Option (Bor A)) (p q : Option A) → p ≡ q → MatchOption r (q ≡ None) (λ t. q ≡ Some t.now) → MatchOption r (p ≡ None) (λ t. p ≡ Some t.now)
relent None p q e h = e ∙ h
relent (Some t) p q e h = e ∙ h

pub apart_put : {T E : Type 0} (part : Part) (r : Result T E) (c d : Stored) (n : List ℕ) (v : Option (List ℕ)) → OnOk r (d ≡ with_part part c (keep bytes_eq (in_part part c) n v)) → OnErr r (d ≡ c) → AreBothApart c → AreBothApart d
apart_put File (Ok u) c d n v e f h = rw e (apart_keep c.files n v h.0, h.1)
apart_put Prop (Ok u) c d n v e f h = rw e (h.0, apart_keep c.props n v h.1)
apart_put File (Err u) c d n v e f h = rw f h
apart_put Prop (Err u) c d n v e f h = rw f h

abbrev pub put_on : Part → Changing → List ℕ → Option (List ℕ) → Changing
put_on part h n v = record h { now = with_part part h.now (keep bytes_eq (in_part part h.now) n v) }

abbrev pub with_files : Changing → List Named → Changing
with_files h xs = record h { now = record h.now { files = xs } }

abbrev pub with_props : Changing → List Named → Changing
with_props h xs = record h { now = record h.now { props = xs } }

pub put_changed : {T E : Type 0} (part : Part) (r : Result T E) (o c d : Stored) (h : Changing) (n : List ℕ) (v : Option (List ℕ)) → OnOk r (d ≡ with_part part c (keep bytes_eq (in_part part c) n v)) → AreBothApart c → changing o c ≡ h →
    OnOk r (changing o d ≡ put_on part h n v)
put_changed File (Ok u) o c d h n v e a q = ap (changing o) e ∙ ap (with_files (changing o c)) (keep_changed o.files c.files n v a.0) ∙ ap (λ y. put_on File y n v) q
put_changed Prop (Ok u) o c d h n v e a q = ap (changing o) e ∙ ap (with_props (changing o c)) (keep_changed o.props c.props n v a.1) ∙ ap (λ y. put_on Prop y n v) q
put_changed File (Err u) o c d h n v e a q = tt
put_changed Prop (Err u) o c d h n v e a q = tt
