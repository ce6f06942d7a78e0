-- The classes of the program without quiet initialisers, and which of them are trivial.
use Rattle.std.proofs.Common.{◌≡◌, ◌⊎◌, ℕ, zero, suc, ◌<◌, List, [], ◌∷◌, ◌++◌, length, map, filter, Bool, true, false, not, ◌&&◌, cond, Option, Some, None, is_some, refl, sym, ◌∙◌, ap, inl, inr, arith}
use Rattle.std.specs.Prelude.{flat_map}
use Rattle.std.specs.List.{list_any, range_with_len}
use Rattle.std.proofs.lemmas.{Bool.and_from, Bool.cases_lt, List.get_or_past, List.FromFn.get_or-map-range_with_len, List.FromFn.length-map-range_with_len}
use Rattle.jvm_model.specs.declared.{program.ClassRec.ClassRec, program.FieldRec.FieldRec, program.Program.Program, values.Value.Value}
use Rattle.jvm_model.specs.declared.values.Location.TheVariants as place
use Rattle.jvm_model.specs.World.{at}
use Rattle.jvm_model.specs.Classes.{no_class, no_field, class_at, field_at, method_at, is_interface, is_default_method, default_interfaces, own_interfaces, first_mentions, lineage_in, class_bound, upwards_in, upwards, declares_start}
use Rattle.quiet_init.specs.Quiet.{is_still_start, starts_still, is_quiet, left_by, quiet_class, quiet_field, quiet}

module _ (p : Program) where
  pub class_count : length (quiet p).classes ≡ length p.classes
  unfolding quiet
  class_count = length-map-range_with_len (quiet_class p) 0 (length p.classes)

  pub field_count : length (quiet p).fields ≡ length p.fields
  unfolding quiet
  field_count = length-map-range_with_len (quiet_field p) 0 (length p.fields)

  past_class : (c : ℕ) → class_at p c ≡ no_class → quiet_class p c ≡ no_class
  past_class c e = by (is_quiet p c)
    where
      by : (b : Bool) → cond b (record (class_at p c) { initialiser = None }) (class_at p c) ≡ no_class
      by true = ap (λ (x : ClassRec). record x { initialiser = None }) e
      by false = e

  pub class_is : (c : ℕ) → class_at (quiet p) c ≡ quiet_class p c
  unfolding quiet
  class_is c = elim (cases_lt c (length p.classes)) [
    | inl h ↦ get_or-map-range_with_len (quiet_class p) 0 (length p.classes) c c no_class h (omega arith)
    | inr h ↦ get_or_past (map (quiet_class p) (range_with_len 0 (length p.classes))) c no_class (let e = length-map-range_with_len (quiet_class p) 0 (length p.classes) in omega arith) ∙ sym (past_class c (get_or_past p.classes c no_class (omega arith)))
  ]

  -- a part of a class that the initialiser has no part in
  pub kept : {A : Type 0} (g : ClassRec → A) → ((x : ClassRec) → g (record x { initialiser = None }) ≡ g x) → (c : ℕ) → g (class_at (quiet p) c) ≡ g (class_at p c)
  kept g f c = ap g (class_is c) ∙ by (is_quiet p c)
    where
      by : (b : Bool) → g (cond b (record (class_at p c) { initialiser = None }) (class_at p c)) ≡ g (class_at p c)
      by true = f (class_at p c)
      by false = refl

  pub flags_kept : (c : ℕ) → (class_at (quiet p) c).flags ≡ (class_at p c).flags
  flags_kept c = kept (λ (x : ClassRec). x.flags) (λ x. refl) c

  pub above_kept : (c : ℕ) → (class_at (quiet p) c).superclass ≡ (class_at p c).superclass
  above_kept c = kept (λ (x : ClassRec). x.superclass) (λ x. refl) c

  pub interfaces_kept : (c : ℕ) → (class_at (quiet p) c).interfaces ≡ (class_at p c).interfaces
  interfaces_kept c = kept (λ (x : ClassRec). x.interfaces) (λ x. refl) c

  pub methods_kept : (c : ℕ) → (class_at (quiet p) c).methods ≡ (class_at p c).methods
  methods_kept c = kept (λ (x : ClassRec). x.methods) (λ x. refl) c

  pub fields_kept : (c : ℕ) → (class_at (quiet p) c).fields ≡ (class_at p c).fields
  fields_kept c = kept (λ (x : ClassRec). x.fields) (λ x. refl) c

  pub names_kept : (c : ℕ) → (class_at (quiet p) c).name ≡ (class_at p c).name
  names_kept c = kept (λ (x : ClassRec). x.name) (λ x. refl) c

  -- a field, and a part of it that its opening value has no part in
  past_field : (f : ℕ) (x : FieldRec) → field_at p f ≡ x → {A : Type 0} (g : FieldRec → A) → ((x : FieldRec) (v : Value) → g (record x { opening = v }) ≡ g x) → g (quiet_field p f) ≡ g x
  past_field f x e g h = by (is_quiet p (field_at p f).class) ∙ ap g e
    where
      by : (b : Bool) → g (cond b (record (field_at p f) { opening = at (left_by p (field_at p f).class) (place.Static f) }) (field_at p f)) ≡ g (field_at p f)
      by true = h (field_at p f) (at (left_by p (field_at p f).class) (place.Static f))
      by false = refl

  pub field_is : (f : ℕ) → f < length p.fields → field_at (quiet p) f ≡ quiet_field p f
  unfolding quiet
  field_is f h = get_or-map-range_with_len (quiet_field p) 0 (length p.fields) f f no_field h (omega arith)

  pub field_part : {A : Type 0} (g : FieldRec → A) → ((x : FieldRec) (v : Value) → g (record x { opening = v }) ≡ g x) → (f : ℕ) → g (field_at (quiet p) f) ≡ g (field_at p f)
  field_part g h f = elim (cases_lt f (length p.fields)) [
    | inl l ↦ ap g (field_is f l) ∙ past_field f (field_at p f) refl g h
    | inr l ↦ ap g (get_or_past (quiet p).fields f no_field (let e = field_count in omega arith)) ∙ sym (ap g (get_or_past p.fields f no_field (omega arith)))
  ]

  pub owners_kept : (f : ℕ) → (field_at (quiet p) f).class ≡ (field_at p f).class
  owners_kept f = field_part (λ (x : FieldRec). x.class) (λ x v. refl) f

  pub field_names_kept : (f : ℕ) → (field_at (quiet p) f).name ≡ (field_at p f).name
  field_names_kept f = field_part (λ (x : FieldRec). x.name) (λ x v. refl) f

  pub descriptors_kept : (f : ℕ) → (field_at (quiet p) f).descriptor ≡ (field_at p f).descriptor
  descriptors_kept f = field_part (λ (x : FieldRec). x.descriptor) (λ x v. refl) f

  pub field_flags_kept : (f : ℕ) → (field_at (quiet p) f).flags ≡ (field_at p f).flags
  field_flags_kept f = field_part (λ (x : FieldRec). x.flags) (λ x v. refl) f

  -- a class starts as before, unless it is quiet
  pub starts_kept : (c : ℕ) → declares_start (quiet p) c ≡ declares_start p c && not (is_quiet p c)
  starts_kept c = ap (λ (x : ClassRec). is_some x.initialiser) (class_is c) ∙ by (is_quiet p c) (declares_start p c) refl
    where
      by : (b d : Bool) → is_some (class_at p c).initialiser ≡ d → is_some (cond b (record (class_at p c) { initialiser = None }) (class_at p c)).initialiser ≡ d && not b
      by true true e = refl
      by true false e = refl
      by false true e = e
      by false false e = e

  upwards_above : (k : ℕ) (o : Option ℕ) → ((d : ℕ) → upwards_in (quiet p) k d ≡ upwards_in p k d) → elim o as (λ x. List ℕ) [ None ↦ [] | Some d ↦ upwards_in (quiet p) k d ] ≡ elim o as (λ x. List ℕ) [ None ↦ [] | Some d ↦ upwards_in p k d ]
  upwards_above k None f = refl
  upwards_above k (Some d) f = f d

  upwards_in_kept : (k c : ℕ) → upwards_in (quiet p) k c ≡ upwards_in p k c
  upwards_in_kept zero c = refl
  upwards_in_kept (suc k) c =
      ap (λ (o : Option ℕ). c ∷ (elim o as (λ x. List ℕ) [ None ↦ [] | Some d ↦ upwards_in (quiet p) k d ])) (above_kept c)
      ∙ ap (λ (xs : List ℕ). c ∷ xs) (upwards_above k (class_at p c).superclass (upwards_in_kept k))

  pub upwards_kept : (c : ℕ) → upwards (quiet p) c ≡ upwards p c
  upwards_kept c = upwards_in_kept class_bound c

  lineage_kept : (k : ℕ) → ◌≡◌ {A = ℕ → List ℕ} (λ c. lineage_in (quiet p) k c) (λ c. lineage_in p k c)
  lineage_kept zero = λ i c. []
  lineage_kept (suc k) = λ i c. flat_map (λ j. lineage_kept k i j) (interfaces_kept c i) ++ (c ∷ [])

  pub own_interfaces_kept : (c : ℕ) → own_interfaces (quiet p) c ≡ own_interfaces p c
  unfolding own_interfaces
  own_interfaces_kept c = λ i. first_mentions (flat_map (λ j. lineage_kept class_bound i j) (interfaces_kept c i))

  pub defaults_kept : (c : ℕ) → default_interfaces (quiet p) c ≡ default_interfaces p c
  unfolding default_interfaces quiet
  defaults_kept c = λ i. filter (λ d. list_any (λ m. is_default_method (method_at p m)) (methods_kept d i)) (own_interfaces_kept c i)

-- ---- trivial classes

module _ (p : Program) where
  -- a still start is one
  pub still_starts : (c : ℕ) → is_still_start p c ≡ true → declares_start p c ≡ true
  still_starts c e = by (class_at p c).initialiser e
    where
      by : (o : Option ℕ) → starts_still p c o ≡ true → is_some o ≡ true
      by None e = absurd (cc)
      by (Some m) e = refl

  -- of a class or interface with a still start, and an interface's is all
  pub quiet_interface : (c : ℕ) → is_interface (class_at p c).flags ≡ true → is_still_start p c ≡ true → is_quiet p c ≡ true
  unfolding is_quiet
  quiet_interface c f e = and_from (is_still_start p c) _ e (rw f refl)

  -- neither a trivial interface nor a quiet one is started
  pub none_started : (c : ℕ) → (declares_start p c ≡ false) ⊎ (is_quiet p c ≡ true) → not (declares_start (quiet p) c) ≡ true
  none_started c (inl e) = ap not (starts_kept p c ∙ ap (λ (b : Bool). b && not (is_quiet p c)) e)
  none_started c (inr e) = ap not (starts_kept p c ∙ by (declares_start p c) (is_quiet p c) e)
    where
      by : (b d : Bool) → d ≡ true → (b && not d) ≡ false
      by true true e = refl
      by false d e = refl
      by true false e = absurd (cc)
