-- The worlds of the two runs between steps, and what a going of a hushed class is to them: the program's world goes on, the other
-- one stays, and they are beside one another as before.
use Rattle.std.proofs.Common.{◌≡◌, ◌⊎◌, ℕ, ◌<◌, length, get_or, map, Bool, true, false, not, ◌&&◌, cond, nat_eq, Option, Some, None, is_some, refl, sym, ◌∙◌, ap, subst, inl, inr, arith}
use Rattle.std.specs.{Str.bytes_eq, List.range_with_len}
use Rattle.std.proofs.{lemmas.Bool.cases_lt, lemmas.List.get_or_past, lemmas.List.FromFn.get_or-map-range_with_len, Math.ListN.get_or-map}
use Rattle.jvm_model.specs.declared.values.{Value.Value, Value.TheVariants.Null, InitState.TheVariants.Idle, InitState.TheVariants.Done, Location.Location}
use Rattle.jvm_model.specs.declared.values.Location.TheVariants as place
use Rattle.jvm_model.specs.{declared.program.ClassRec.ClassRec, declared.program.FieldRec.FieldRec, declared.program.Program.Program, Suite.opening}
use Rattle.jvm_model.specs.World.{World, no_object, text_or_empty, Content, at, size, look}
use Rattle.jvm_model.specs.Classes.{no_class, no_field, class_at, field_at, is_trivial, declares_start}
use Rattle.quiet_init.specs.Quiet.{is_quiet, left_by_start, left_by, quiet_field, quiet}
use Rattle.quiet_init.proofs.{Parts.field_count, Parts.starts_kept, Trivials.declares_none, Going.Hushed, Going.hushed, Going.Fresh, Going.Went}

abbrev pub IsHushed : Program → ℕ → Type 0
IsHushed p c = (is_trivial p c ≡ false) × (is_trivial (quiet p) c ≡ true)

-- a hushed class that no test has come to
abbrev pub IsPending : Program → World → ℕ → Type 0
IsPending p w c = IsHushed p c × (at w (place.Init c) ≡ Idle)

-- a location that the two runs have alike
abbrev pub IsClear : Program → World → Location → Type 0
IsClear p w (place.Init c) = IsHushed p c → ⊥
IsClear p w (place.Static f) = IsPending p w (field_at p f).class → ⊥
IsClear p w L = Unit {0}

-- how contents are alike: equal, or paired by a matching
module _ (p : Program) (R : (L : Location) → Content L → Content L → Type 0) where
  pub record Beside (w v : World) : Type 0 where
    pub sizes : size w ≡ size v
    pub alike : (L : Location) → IsClear p w L → R L (at w L) (at v L)
    pub hushed : (c : ℕ) → IsHushed p c → (at w (place.Init c) ≡ Idle) ⊎ (at w (place.Init c) ≡ Done)
    pub pending : (f : ℕ) → IsPending p w (field_at p f).class → (at w (place.Static f) ≡ (field_at p f).opening) × (at v (place.Static f) ≡ (field_at (quiet p) f).opening)

  is_hushed : {c : ℕ} → Hushed p c → IsHushed p c
  is_hushed (hushed n t s f) = (n, t)

  opens_with : (f : ℕ) → at (opening p) (place.Static f) ≡ (field_at p f).opening
  unfolding opening
  opens_with f = get_or-map (λ (x : FieldRec). x.opening) p.fields f no_field

  -- such a world is one that goings may begin in
  pub fresh : {w v : World} → Beside w v → Fresh p w
  unfolding opening
  fresh {w = w} b = record {
    opened = λ d h i f q. (b.pending f (subst (λ (x : ℕ). IsPending p w x) (sym q) (is_hushed h, i))).0 ∙ sym (opens_with f);
    sound = λ d h e. elim (b.hushed d (is_hushed h)) [ inl i ↦ absurd (let z = sym i ∙ e in cc) | inr i ↦ absurd (let z = sym i ∙ e in cc) ];
  }

  -- what a hushed class leaves is what its fields open with
  none_of : (o : Option ℕ) → is_some o ≡ false → o ≡ None
  none_of None e = refl
  none_of (Some m) e = absurd (cc)

  leaves : (f : ℕ) → f < length p.fields → IsHushed p (field_at p f).class → at (left_by p (field_at p f).class) (place.Static f) ≡ (field_at (quiet p) f).opening
  unfolding quiet left_by
  leaves f l h = by (is_quiet p (field_at p f).class) refl ∙ sym (ap (λ (x : FieldRec). x.opening) (get_or-map-range_with_len (quiet_field p) 0 (length p.fields) f f no_field l (omega arith)))
    where
      other : (a b : Bool) → b ≡ false → not (a && not b) ≡ true → a ≡ false
      other false b q e = refl
      other true false q e = absurd (cc)
      other true true q e = absurd (cc)

      by : (b : Bool) → is_quiet p (field_at p f).class ≡ b → at (left_by p (field_at p f).class) (place.Static f) ≡ (cond b (record (field_at p f) { opening = at (left_by p (field_at p f).class) (place.Static f) }) (field_at p f)).opening
      by true q = refl
      by false q =
          let c = (field_at p f).class in
          let n : declares_start p c ≡ false = other (declares_start p c) (is_quiet p c) q (ap not (sym (starts_kept p c)) ∙ declares_none (quiet p) c h.1) in
          ap (λ (z : Option ℕ). at (left_by_start p c z) (place.Static f)) (none_of (class_at p c).initialiser n) ∙ opens_with f

  module _ (self : (L : Location) (a : Content L) → R L a a) (there : (f : ℕ) → IsHushed p (field_at p f).class → f < length p.fields) (w v u : World) (b : Beside w v) (g : Went p w u) where
    to_static : (f : ℕ) → IsClear p u (place.Static f) → R (place.Static f) (at u (place.Static f)) (at v (place.Static f))
    to_static f clear = elim (g.states (field_at p f).class) [
      | inl e ↦ subst (λ (x : Value). R (place.Static f) x (at v (place.Static f))) (sym (g.kept f e)) (b.alike (place.Static f) (λ z. clear (z.0, e ∙ z.1)))
      | inr t ↦
          let h = is_hushed t.0 in
          let q : at u (place.Static f) ≡ at v (place.Static f) = g.left (field_at p f).class t.1 t.2 f refl ∙ (leaves f (there f h) h ∙ sym (b.pending f (h, t.1)).1) in
          subst (λ (x : Value). R (place.Static f) (at u (place.Static f)) x) q (self (place.Static f) (at u (place.Static f)))
    ]

    same_part : (L : Location) → at u L ≡ at w L → IsClear p w L → R L (at u L) (at v L)
    same_part L e c = subst (λ (x : Content L). R L x (at v L)) (sym e) (b.alike L c)

    to_state : (c : ℕ) → IsClear p u (place.Init c) → R (place.Init c) (at u (place.Init c)) (at v (place.Init c))
    to_state c clear = elim (g.states c) [ inl e ↦ same_part (place.Init c) e clear | inr t ↦ absurd (clear (is_hushed t.0)) ]

    to_alike : (L : Location) → IsClear p u L → R L (at u L) (at v L)
    to_alike (place.Static f) c = to_static f c
    to_alike (place.Init d) c = to_state d c
    to_alike (place.Head o) c = same_part (place.Head o) (ap (λ os. (get_or os o no_object).head) g.objects) tt
    to_alike (place.Field o f) c = same_part (place.Field o f) (ap (λ os. look nat_eq Null (get_or os o no_object).fields f) g.objects) tt
    to_alike (place.Elem o i) c = same_part (place.Elem o i) (ap (λ os. get_or (get_or os o no_object).elems i Null) g.objects) tt
    to_alike (place.Text o) c = same_part (place.Text o) (ap (λ os. text_or_empty (get_or os o no_object).text) g.objects) tt
    to_alike (place.File n) c = same_part (place.File n) (ap (λ x. look bytes_eq None x n) g.files) tt
    to_alike (place.Prop n) c = same_part (place.Prop n) (ap (λ x. look bytes_eq None x n) g.props) tt

    -- the step that the other run doesn't make
    pub after_going : Beside u v
    after_going = record {
      sizes = ap (λ os. length os) g.objects ∙ b.sizes;
      alike = to_alike;
      hushed = λ c h. elim (g.states c) [ inl e ↦ elim (b.hushed c h) [ inl i ↦ inl (e ∙ i) | inr i ↦ inr (e ∙ i) ] | inr t ↦ inr t.2 ];
      pending = λ f i. elim (g.states (field_at p f).class) [
        | inl e ↦ (let q = b.pending f (i.0, sym e ∙ i.1) in (g.kept f e ∙ q.0, q.1))
        | inr t ↦ absurd (let z = sym t.2 ∙ i.1 in cc)
      ];
    }

  -- ---- at the start

  all_idle : (q : Program) (c : ℕ) → at (opening q) (place.Init c) ≡ Idle
  unfolding opening
  all_idle q c = get_or-map (λ (x : ClassRec). Idle) q.classes c no_class

  module _ (self : (L : Location) (a : Content L) → R L a a) (quiet_hushed : (c : ℕ) → is_quiet p c ≡ true → IsHushed p c) where
    opens_alike : (f : ℕ) → (IsHushed p (field_at p f).class → ⊥) → (field_at (quiet p) f).opening ≡ (field_at p f).opening
    unfolding quiet
    opens_alike f n = elim (cases_lt f (length p.fields)) [
      | inl h ↦ ap (λ (x : FieldRec). x.opening) (get_or-map-range_with_len (quiet_field p) 0 (length p.fields) f f no_field h (omega arith)) ∙ by (is_quiet p (field_at p f).class) refl
      | inr h ↦ ap (λ (x : FieldRec). x.opening) (get_or_past (map (quiet_field p) (range_with_len 0 (length p.fields))) f no_field (let e = field_count p in omega arith) ∙ sym (get_or_past p.fields f no_field (omega arith)))
    ]
      where
        by : (b : Bool) → is_quiet p (field_at p f).class ≡ b → (cond b (record (field_at p f) { opening = at (left_by p (field_at p f).class) (place.Static f) }) (field_at p f)).opening ≡ (field_at p f).opening
        by true q = absurd (n (quiet_hushed (field_at p f).class q))
        by false q = refl

    start_alike : (L : Location) → IsClear p (opening p) L → at (opening p) L ≡ at (opening (quiet p)) L
    unfolding opening quiet
    start_alike (place.Static f) c = opens_with f ∙ (sym (opens_alike f (λ h. c (h, all_idle p (field_at p f).class))) ∙ sym (get_or-map (λ (x : FieldRec). x.opening) (quiet p).fields f no_field))
    start_alike (place.Init d) c = all_idle p d ∙ sym (all_idle (quiet p) d)
    start_alike _ c = refl

    pub at_start : Beside (opening p) (opening (quiet p))
    unfolding opening
    at_start = record {
      sizes = refl;
      alike = λ L c. subst (λ (x : Content L). R L (at (opening p) L) x) (start_alike L c) (self L (at (opening p) L));
      hushed = λ c h. inl (all_idle p c);
      pending = λ f i. (opens_with f, get_or-map (λ (x : FieldRec). x.opening) (quiet p).fields f no_field);
    }
