-- A linked program and the skeleton that its references were resolved in: the classes and fields are the same, and the
-- methods but for their bodies.
use Rattle.std.proofs.Common.{◌≡◌, ℕ, ◌+◌, List, [], ◌∷◌, ◌++◌, map, get_or, Bool, refl, sym, ◌∙◌, ap, Option, Some, None}
use Rattle.std.specs.Prelude.{is_some, option_map}
use Rattle.std.proofs.{Math.ListN.get_or-map, lemmas.List.map-append}
use Rattle.class_pool.specs.declared.pool.Entry.{Entry}
use Rattle.class_reader.specs.declared.parts.{ClassParts.ClassParts, MemberPart.MemberPart, CodePart.CodePart}
use Rattle.jvm_model.specs.declared.{program.Program.Program, program.Body.Body, program.TestEntry.TestEntry, values.Kind.Kind}
use Rattle.jvm_model.specs.{Builtin.builtin_count, Builtin.throwable_class, Library.builtin_methods, Lookup.find_field, Lookup.find_method}
use Rattle.jvm_model.specs.Classes.{class_at, method_at, no_method, is_below, is_static}
use Rattle.jvm_model.specs.{Driver.plain_method_in, Linked.IsAncestor, Linked.direct, Linked.further, Linked.test_method}
use Rattle.class_link.specs.ClassNames.{text_at}
use Rattle.class_link.specs.Assembly.{bare_body, method_rec, method_recs, assembled, skeleton}
use Rattle.member_lookup.proofs.Alike as alike
use Rattle.member_lookup.proofs.Alike.{Outline, outline}
use Rattle.jvm_model.specs.declared.values.Kind.TheVariants as kind
use Rattle.code_forms.specs.{declared.references.Use.Use, declared.references.Target.Target, Uses.method_fits, Uses.type_fits, Uses.fits}
use Rattle.code_forms.specs.declared.references.Use.TheVariants as used
use Rattle.code_forms.specs.declared.references.Target.TheVariants as target

mapped_some : {A B : Type 0} (f g : A → B) (o : Option A) → is_some (option_map f o) ≡ is_some (option_map g o)
mapped_some f g None = refl
mapped_some f g (Some x) = refl

outlined : (slots : List (Option Entry)) (n : ℕ) (x : MemberPart) → Bool → Outline
outlined slots n x coded = record { class = n; name = text_at slots x.name; descriptor = text_at slots x.descriptor; flags = x.flags; native = None; coded = coded }

members_same : (b d : CodePart → Body) (slots : List (Option Entry)) (n : ℕ) (xs : List MemberPart) → map outline (map (method_rec b slots n) xs) ≡ map outline (map (method_rec d slots n) xs)
unfolding outlined
members_same b d slots n [] = refl
members_same b d slots n (x ∷ xs) =
    ap (λ (coded : Bool). outlined slots n x coded ∷ map outline (map (method_rec b slots n) xs)) (mapped_some b d x.code)
    ∙ ap (λ (ys : List Outline). outline (method_rec d slots n x) ∷ ys) (members_same b d slots n xs)

recs_same : (b d : ClassParts → CodePart → Body) (n : ℕ) (cs : List ClassParts) → map outline (method_recs b n cs) ≡ map outline (method_recs d n cs)
recs_same b d n [] = refl
recs_same b d n (c ∷ cs) =
    map-append outline (map (method_rec (b c) c.pool n) c.methods) (method_recs b (n + 1) cs)
    ∙ (ap (λ (xs : List Outline). xs ++ map outline (method_recs b (n + 1) cs)) (members_same (b c) (d c) c.pool n c.methods)
    ∙ (ap (λ (xs : List Outline). map outline (map (method_rec (d c) c.pool n) c.methods) ++ xs) (recs_same b d (n + 1) cs)
    ∙ sym (map-append outline (map (method_rec (d c) c.pool n) c.methods) (method_recs d (n + 1) cs))))

module _ (body : ClassParts → CodePart → Body) (cs : List ClassParts) (tests : List TestEntry) (files : List (List ℕ × List ℕ)) where
  abbrev p : Program
  p = assembled body cs tests files

  abbrev q : Program
  q = skeleton cs

  outlines_same : map outline p.methods ≡ map outline q.methods
  unfolding assembled
  outlines_same =
      map-append outline builtin_methods (method_recs body builtin_count cs)
      ∙ (ap (λ (xs : List Outline). map outline builtin_methods ++ xs) (recs_same body (λ c code. bare_body code) builtin_count cs)
      ∙ sym (map-append outline builtin_methods (method_recs (λ c code. bare_body code) builtin_count cs)))

  pub outline_same : (m : ℕ) → outline (method_at p m) ≡ outline (method_at q m)
  outline_same m = sym (get_or-map outline p.methods m no_method) ∙ (ap (λ (xs : List Outline). get_or xs m (outline no_method)) outlines_same ∙ get_or-map outline q.methods m no_method)

  pub class_same : (c : ℕ) → class_at p c ≡ class_at q c
  unfolding assembled
  class_same c = refl

  pub below_same : (c d : ℕ) → is_below p c d ≡ is_below q c d
  unfolding assembled
  below_same c d = alike.below_same q p.methods tests files c d

  pub find_field_same : (c : ℕ) (name descriptor : List ℕ) → find_field p c name descriptor ≡ find_field q c name descriptor
  unfolding assembled
  find_field_same c name descriptor = alike.find_field_same q p.methods tests files c name descriptor

  pub find_method_same : (c : ℕ) (name descriptor : List ℕ) → find_method p c name descriptor ≡ find_method q c name descriptor
  unfolding assembled
  find_method_same c name descriptor = alike.find_method_same q p.methods tests files outline_same c name descriptor

  pub test_method_same : (c : ℕ) (name : List ℕ) → test_method p c name ≡ test_method q c name
  unfolding assembled
  test_method_same c name = alike.test_method_same q p.methods tests files outline_same c name

  pub plain_method_same : (name xs : List ℕ) → plain_method_in p name xs ≡ plain_method_in q name xs
  unfolding assembled
  plain_method_same name xs = alike.plain_method_same q p.methods tests files outline_same name xs

  -- ancestors are the same
  pub ancestor_same : {c d : ℕ} → IsAncestor p c d → IsAncestor q c d
  unfolding assembled
  ancestor_same (direct e) = direct e
  ancestor_same (further e a) = further e (ancestor_same a)

  -- ---- what fits in both

  static_same : (m : ℕ) → is_static (method_at p m).flags ≡ is_static (method_at q m).flags
  static_same m = ap (λ (r : Outline). is_static r.flags) (outline_same m)

  type_fits_same : (u : Use) (k : Kind) → type_fits p u k ≡ type_fits q u k
  type_fits_same used.Type k = refl
  type_fits_same used.Caught (kind.Class d) = below_same d throwable_class
  type_fits_same used.Caught (kind.Array d b) = refl
  type_fits_same u k = refl

  method_fits_same : (c : ℕ) (e : Option Entry) (u : Use) (k : Kind) (m : ℕ) → method_fits p c e u k m ≡ method_fits q c e u k m
  unfolding assembled
  method_fits_same c e used.Virtual k m = let a = static_same m in rw a refl
  method_fits_same c e used.Interface k m = let a = static_same m in rw a refl
  method_fits_same c e used.Special k m = let a = static_same m in rw a refl
  method_fits_same c e used.StaticCall k m = let a = static_same m in rw a refl
  method_fits_same c e u k m = refl

  pub fits_same : (c : ℕ) (e : Option Entry) (t : Target) (u : Use) → fits p c e t u ≡ fits q c e t u
  unfolding fits assembled
  fits_same c e (target.Constant v) u = refl
  fits_same c e (target.Type k) u = type_fits_same u k
  fits_same c e (target.Field d f) u = refl
  fits_same c e (target.Method k m) u = method_fits_same c e u k m
