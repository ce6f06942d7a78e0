-- Kinds of arrays, and what their elements are.
use Rattle.std.proofs.Common.{◌≡◌, ◌⊎◌, ℕ, zero, suc, ◌-◌, List, [], ◌∷◌, ◌++◌, drop, replicate, Bool, true, false, not, ◌&&◌, ◌||◌, nat_eq, Option, Some, None, refl, sym, ◌∙◌, ap, subst, arith, inl, inr}
use Rattle.std.specs.Str.{bytes_eq}
use Rattle.std.proofs.lemmas.Bool.{cases_Bool, and_parts, or_cases, eqb-true}
use Rattle.std.proofs.{lemmas.Iterator.Adapters.position_from-zero, lemmas.List.Quantifiers.position-Some}
use Rattle.jvm_model.specs.declared.{program.ClassRec.ClassRec, program.Program.Program, values.Base.Base, values.Kind.Kind}
use Rattle.jvm_model.specs.{Builtin.object_class, RowsArrays.base_letter, Kinds.element_kind, Linked.Linked, Linked.IsKind}
use Rattle.jvm_model.specs.Classes.{class_at, no_class, is_interface, is_below}
use Rattle.type_frames.specs.{StackEffect.element_type, TypedState.IsInstance, TypedState.element_text}
use Rattle.type_frames.specs.Assign.{class_named, takes_any, extends, class_fits, element_fits, is_array, object_fits, assignable}
use Rattle.et_base.proofs.Texts.{units_true}
use Rattle.check_sound.proofs.{Instances.plain_name, Instances.plain_fits, Instances.array_fits, KindNames.class_within}
use Rattle.jvm_model.specs.declared.values.Base.TheVariants as base
use Rattle.jvm_model.specs.declared.values.Kind.TheVariants as kind
use Rattle.type_frames.specs.declared.vtype.{VType.VType, VType.TheVariants.Object}
use Rattle.type_frames.specs.Descriptors.{class_name, types_of, name_of, kind_name, base_text}

-- the elements of kind k are references, of kind e
pub record References (p : Program) (k e : Kind) : Type 0 where
  pub element : element_kind k ≡ e
  pub is_kind : IsKind p e
  pub types : types_of (element_text p k) ≡ Object (kind_name p e) ∷ []

element_array : (d : ℕ) (b : Base) → element_kind (kind.Array (suc (suc d)) b) ≡ kind.Array (suc d) b
element_array d (base.Class c) =
    let q : suc (suc d) - 1 ≡ suc d = omega arith in
    let e : nat_eq (suc (suc d)) 1 ≡ false = elim (cases_Bool (nat_eq (suc (suc d)) 1)) [ inl z ↦ absurd (let y = eqb-true (suc (suc d)) 1 z in omega arith) | inr z ↦ z ] in
    rw e (ap (λ (n : ℕ). kind.Array n (base.Class c)) q)
element_array d b = ap (λ (n : ℕ). kind.Array n b) (omega arith)

pub of_arrays : (p : Program) (d : ℕ) (b : Base) → IsKind p (kind.Array (suc (suc d)) b) → References p (kind.Array (suc (suc d)) b) (kind.Array (suc d) b)
of_arrays p d b h = record { element = element_array d b; is_kind = (omega arith, (let z = h.1 in omega arith), h.2); types = refl }

pub of_objects : (p : Program) (c : ℕ) → IsKind p (kind.Array 1 (base.Class c)) → References p (kind.Array 1 (base.Class c)) (kind.Class c)
of_objects p c h = record { element = refl; is_kind = h.2; types = ap {B = List VType} (λ (a : List ℕ). Object a ∷ []) (class_within (name_of p c)) }

-- ---- by names

-- an array of whole numbers or booleans, whose elements' text is this letter
pub record Plain (p : Program) (x : Kind) (u : ℕ) : Type 0 where
  pub base : Base
  pub is : x ≡ kind.Array 1 base
  pub text : base_text p base ≡ u ∷ []
  pub letter : base_letter base ≡ u

-- an array of references, whose elements are of a kind that fits the element type of an array type
pub record Refs (p : Program) (a : List ℕ) (x : Kind) : Type 0 where
  pub dims : ℕ
  pub base : Base
  pub is : x ≡ kind.Array dims base
  pub element : Kind
  pub references : References p x element
  pub named : List ℕ
  pub type : element_type (Object a) ≡ Object named
  pub fits : assignable p (Object (kind_name p element)) (Object named) ≡ true

-- an array that is an instance of an array type
record Elements (p : Program) (a : List ℕ) (x : Kind) : Type 0 where
  dims : ℕ
  base : Base
  is : x ≡ kind.Array (suc dims) base
  fits : element_fits p (replicate dims 91 ++ base_text p base) (drop 1 a) ≡ true

module _ (p : Program) (lk : Linked p) where
  plain_array : (a b : List ℕ) → is_array a ≡ false → is_array b ≡ true → object_fits p a b ≡ false
  unfolding object_fits
  plain_array a b e f =
      ap (λ (x : Bool). elim x as (λ z. Bool) [ true ↦ elim (is_array b) as (λ z. Bool) [ true ↦ element_fits p (drop 1 a) (drop 1 b) | false ↦ takes_any p b ] | false ↦ not (is_array b) && class_fits p a b ]) e
      ∙ ap (λ (x : Bool). not x && class_fits p a b) f

  both_arrays : (a b : List ℕ) → is_array a ≡ true → is_array b ≡ true → object_fits p a b ≡ element_fits p (drop 1 a) (drop 1 b)
  unfolding object_fits
  both_arrays a b e f =
      ap (λ (x : Bool). elim x as (λ z. Bool) [ true ↦ elim (is_array b) as (λ z. Bool) [ true ↦ element_fits p (drop 1 a) (drop 1 b) | false ↦ takes_any p b ] | false ↦ not (is_array b) && class_fits p a b ]) e
      ∙ ap (λ (x : Bool). elim x as (λ z. Bool) [ true ↦ element_fits p (drop 1 a) (drop 1 b) | false ↦ takes_any p b ]) f

  -- what fits an array type is one
  pub array_below : (a b : List ℕ) → is_array b ≡ true → object_fits p a b ≡ true → is_array a ≡ true
  array_below a b f e = elim (cases_Bool (is_array a)) [ inl q ↦ q | inr q ↦ absurd (let z : true ≡ false = sym e ∙ plain_array a b q f in cc) ]

  elements : (x : Kind) (a : List ℕ) → IsKind p x → is_array a ≡ true → IsInstance p x a → Elements p a x
  elements (kind.Class c) a h e i = absurd (let z : true ≡ false = sym i ∙ plain_array (name_of p c) a (plain_name p lk c h) e in cc)
  elements (kind.Array zero b) a h e i = absurd (let z = h.0 in omega arith)
  elements (kind.Array (suc d) b) a h e i = record { dims = d; base = b; is = refl; fits = sym (both_arrays (kind_name p (kind.Array (suc d) b)) a refl e) ∙ i }

  -- an instance of an array type is an array
  pub array_kind : (x : Kind) (a : List ℕ) → IsKind p x → is_array a ≡ true → IsInstance p x a → (d : ℕ) × (b : Base) × (x ≡ kind.Array d b)
  array_kind x a h e i = let q = elements x a h e i in (suc q.dims, q.base, q.is)

  -- ---- whole numbers and booleans

  letter_fits : (u : ℕ) (us : List ℕ) (l : ℕ) → nat_eq l 76 ≡ false → nat_eq l 91 ≡ false → element_fits p (u ∷ us) (l ∷ []) ≡ true → u ≡ l
  letter_fits u us l e f i = eqb-true u l (by (nat_eq l 76) (nat_eq l 91) e f i)
    where
      by : (r t : Bool) → r ≡ false → t ≡ false → elim r as (λ z. Bool) [ true ↦ elim (nat_eq u 76) as (λ z. Bool) [ true ↦ class_fits p (class_name us) (class_name []) | false ↦ nat_eq u 91 && takes_any p (class_name []) ] | false ↦ elim t as (λ z. Bool) [ true ↦ nat_eq u 91 && element_fits p us [] | false ↦ nat_eq u l ] ] ≡ true → nat_eq u l ≡ true
      by false false e f i = i
      by _ _ e f i = absurd (cc)

  plain_base : (b : Base) (l : ℕ) → nat_eq l 76 ≡ false → nat_eq l 91 ≡ false → element_fits p (base_text p b) (l ∷ []) ≡ true → (base_text p b ≡ l ∷ []) × (base_letter b ≡ l)
  plain_base base.Boolean l e f i = let q = letter_fits 90 [] l e f i in (ap {B = List ℕ} (λ k. k ∷ []) q, q)
  plain_base base.Byte l e f i = let q = letter_fits 66 [] l e f i in (ap {B = List ℕ} (λ k. k ∷ []) q, q)
  plain_base base.Char l e f i = let q = letter_fits 67 [] l e f i in (ap {B = List ℕ} (λ k. k ∷ []) q, q)
  plain_base base.Short l e f i = let q = letter_fits 83 [] l e f i in (ap {B = List ℕ} (λ k. k ∷ []) q, q)
  plain_base base.Int l e f i = let q = letter_fits 73 [] l e f i in (ap {B = List ℕ} (λ k. k ∷ []) q, q)
  plain_base base.Long l e f i = let q = letter_fits 74 [] l e f i in (ap {B = List ℕ} (λ k. k ∷ []) q, q)
  plain_base (base.Class c) l e f i = absurd (let q = letter_fits 76 (name_of p c ++ 59 ∷ []) l e f i in let z : nat_eq 76 76 ≡ false = subst (λ (k : ℕ). nat_eq k 76 ≡ false) (sym q) e in cc)

  plain_elements : (x : Kind) (d : ℕ) (b : Base) (l : ℕ) → x ≡ kind.Array (suc d) b → nat_eq l 76 ≡ false → nat_eq l 91 ≡ false → element_fits p (replicate d 91 ++ base_text p b) (l ∷ []) ≡ true → Plain p x l
  plain_elements x zero b l q e f i = let r = plain_base b l e f i in record { base = b; is = q; text = r.0; letter = r.1 }
  plain_elements x (suc d) b l q e f i = absurd (let r = letter_fits 91 (replicate d 91 ++ base_text p b) l e f i in let z : nat_eq 91 91 ≡ false = subst (λ (k : ℕ). nat_eq k 91 ≡ false) (sym r) f in cc)

  pub plain_cells : (x : Kind) (l : ℕ) → IsKind p x → nat_eq l 76 ≡ false → nat_eq l 91 ≡ false → IsInstance p x (91 ∷ l ∷ []) → Plain p x l
  plain_cells x l h e f i = let q = elements x (91 ∷ l ∷ []) h refl i in plain_elements x q.dims q.base l q.is e f q.fits

  -- ---- references

  -- the number of a name names a class
  named_plain : (a : List ℕ) (o : Option ℕ) → class_named p a ≡ o → elim o as (λ z. Bool) [ None ↦ false | Some d ↦ true ] ≡ true → is_array a ≡ false
  named_plain a None e h = absurd (cc)
  named_plain a (Some c) e h =
      let test : ClassRec → Bool = λ x. bytes_eq x.name a in
      let q = position-Some test p.classes c no_class (position_from-zero test p.classes ∙ e) in
      subst (λ (x : List ℕ). is_array x ≡ false) (units_true (name_of p c) a q.1) (plain_name p lk c q.0)

  taken_plain : (a : List ℕ) → takes_any p a ≡ true → is_array a ≡ false
  unfolding takes_any
  taken_plain a h = named_plain a (class_named p a) refl (by (class_named p a) h)
    where
      by : (o : Option ℕ) → elim o as (λ z. Bool) [ None ↦ false | Some d ↦ nat_eq d object_class || is_interface (class_at p d).flags ] ≡ true → elim o as (λ z. Bool) [ None ↦ false | Some d ↦ true ] ≡ true
      by None h = h
      by (Some d) h = refl

  extended_plain : (a b : List ℕ) → extends p a b ≡ true → is_array b ≡ false
  unfolding extends
  extended_plain a b h = named_plain b (class_named p b) refl (by (class_named p a) (class_named p b) h)
    where
      by : (q o : Option ℕ) → elim q as (λ z. Bool) [ None ↦ false | Some c ↦ elim o as (λ z. Bool) [ None ↦ false | Some d ↦ is_below p c d ] ] ≡ true → elim o as (λ z. Bool) [ None ↦ false | Some d ↦ true ] ≡ true
      by None o h = absurd (cc)
      by (Some c) None h = h
      by (Some c) (Some d) h = refl

  fits_plain : (a b : List ℕ) → is_array a ≡ false → class_fits p a b ≡ true → is_array b ≡ false
  unfolding class_fits
  fits_plain a b e h = elim (or_cases (bytes_eq a b) (takes_any p b || extends p a b) h) [
    | inl q ↦ subst (λ (x : List ℕ). is_array x ≡ false) (units_true a b q) e
    | inr q ↦ elim (or_cases (takes_any p b) (extends p a b) q) [ inl r ↦ taken_plain b r | inr r ↦ extended_plain a b r ]
  ]

  -- arrays of classes, and of what any class takes
  class_elements : (x : Kind) (d : ℕ) (b : Base) (ws : List ℕ) → IsKind p (kind.Array (suc d) b) → x ≡ kind.Array (suc d) b → element_fits p (replicate d 91 ++ base_text p b) (76 ∷ ws) ≡ true → Refs p (91 ∷ 76 ∷ ws) x
  class_elements x zero (base.Class c) ws h q i =
      let e : class_fits p (name_of p c) (class_name ws) ≡ true = subst (λ (n : List ℕ). class_fits p n (class_name ws) ≡ true) (class_within (name_of p c)) i in
      let n = plain_name p lk c h.2 in
      record {
        dims = 1;
        base = base.Class c;
        is = q;
        element = kind.Class c;
        references = subst (λ (y : Kind). References p y (kind.Class c)) (sym q) (of_objects p c h);
        named = class_name ws;
        type = refl;
        fits = plain_fits p lk (name_of p c) (class_name ws) n (fits_plain (name_of p c) (class_name ws) n e) ∙ e;
      }
  class_elements x (suc d) b ws h q i =
      let t : takes_any p (class_name ws) ≡ true = i in
      record {
        dims = suc (suc d);
        base = b;
        is = q;
        element = kind.Array (suc d) b;
        references = subst (λ (y : Kind). References p y (kind.Array (suc d) b)) (sym q) (of_arrays p d b h);
        named = class_name ws;
        type = refl;
        fits = array_fits p lk (kind_name p (kind.Array (suc d) b)) (class_name ws) refl (taken_plain (class_name ws) t) ∙ t;
      }
  class_elements x zero _ ws h q i = absurd (cc)

  -- arrays of arrays
  array_elements : (x : Kind) (d : ℕ) (b : Base) (ws : List ℕ) → IsKind p (kind.Array (suc d) b) → x ≡ kind.Array (suc d) b → element_fits p (replicate d 91 ++ base_text p b) (91 ∷ ws) ≡ true → Refs p (91 ∷ 91 ∷ ws) x
  array_elements x (suc d) b ws h q i = record {
    dims = suc (suc d);
    base = b;
    is = q;
    element = kind.Array (suc d) b;
    references = subst (λ (y : Kind). References p y (kind.Array (suc d) b)) (sym q) (of_arrays p d b h);
    named = 91 ∷ ws;
    type = refl;
    fits = both_arrays (kind_name p (kind.Array (suc d) b)) (91 ∷ ws) refl refl ∙ i;
  }
  array_elements x zero (base.Class c) ws h q i = absurd (cc)
  array_elements x zero _ ws h q i = absurd (cc)

  -- an array type whose arrays hold references
  letters : (w : ℕ) (ws t : List ℕ) → element_fits p (w ∷ ws) (76 ∷ t) ≡ true → (nat_eq w 76 ≡ true) ⊎ (nat_eq w 91 ≡ true)
  letters w ws t e = by (nat_eq w 76) refl e
    where
      by : (b : Bool) → nat_eq w 76 ≡ b → elim b as (λ z. Bool) [ true ↦ class_fits p (class_name ws) (class_name t) | false ↦ nat_eq w 91 && takes_any p (class_name t) ] ≡ true → (nat_eq w 76 ≡ true) ⊎ (nat_eq w 91 ≡ true)
      by true q e = inl q
      by false q e = inr (and_parts (nat_eq w 91) (takes_any p (class_name t)) e).0

  ref_text : (u : ℕ) (us t : List ℕ) (x : Kind) → nat_eq u 91 ≡ true → IsKind p x → Elements p (u ∷ us) x → element_fits p us (76 ∷ t) ≡ true → Refs p (u ∷ us) x
  ref_text u [] t x e h q f = absurd (cc)
  ref_text u (w ∷ ws) t x e h q f =
      let i : IsKind p (kind.Array (suc q.dims) q.base) = subst (λ (k : Kind). IsKind p k) q.is h in
      subst (λ (k : ℕ). Refs p (k ∷ w ∷ ws) x) (sym (eqb-true u 91 e)) (elim (letters w ws t f) [
        | inl l ↦
            let y = eqb-true w 76 l in
            subst (λ (k : ℕ). Refs p (91 ∷ k ∷ ws) x) (sym y) (class_elements x q.dims q.base ws i q.is (subst (λ (k : ℕ). element_fits p (replicate q.dims 91 ++ base_text p q.base) (k ∷ ws) ≡ true) y q.fits))
        | inr l ↦
            let y = eqb-true w 91 l in
            subst (λ (k : ℕ). Refs p (91 ∷ k ∷ ws) x) (sym y) (array_elements x q.dims q.base ws i q.is (subst (λ (k : ℕ). element_fits p (replicate q.dims 91 ++ base_text p q.base) (k ∷ ws) ≡ true) y q.fits))
      ])

  pub ref_cells : (x : Kind) (a t : List ℕ) → IsKind p x → is_array a ≡ true → assignable p (Object a) (Object (91 ∷ 76 ∷ t)) ≡ true → IsInstance p x a → Refs p a x
  ref_cells x [] t h e f i = absurd (cc)
  ref_cells x (u ∷ us) t h e f i = ref_text u us t x e h (elements x (u ∷ us) h e i) (sym (both_arrays (u ∷ us) (91 ∷ 76 ∷ t) e refl) ∙ f)
