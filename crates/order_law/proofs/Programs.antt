-- What two matched programs say of paired classes, fields and methods.
use Rattle.std.proofs.Common.{◌≡◌, ℕ, zero, suc, Bool, true, false, ◌&&◌, not, cond, List, [], ◌∷◌, flat_map, refl, ap, subst, pos, nat_eq, nat_lt, nat_le, Option, Some, None, arith}
use Rattle.std.specs.Prelude.{find}
use Rattle.std.specs.{List.list_any, List.list_all, Str.bytes_eq}
use Rattle.jvm_model.specs.declared.values.{Value.Value, Base.Base, Kind.Kind, Head.Head}
use Rattle.jvm_model.specs.declared.program.{Program.Program, Body.Body, Placed.Placed, Handler.Handler}
use Rattle.jvm_model.specs.Builtin.{object_class, abstract_method_error, class_change_error}
use Rattle.jvm_model.specs.Classes.{class_at, field_at, method_at, is_private, is_static, is_interface, class_bound, upwards_in, upwards, member, lineage_in, own_interfaces, is_below, implements, clinit_name, init_name, is_default_method, default_interfaces, declares_start, is_trivial, default_of, layout_in, layout, element_default, fields_of, elems_of, blank, instance_head, Found, place_after, found_in, found_of, form_at, next_place}
use Rattle.jvm_model.specs.Kinds.{class_of, element_kind, class_fits, base_fits, is_object, kind_fits}
use Rattle.jvm_model.specs.Selection.{Selected, chosen, failing, is_like, is_open_like, declared_in, candidates, redeclares, kept_of, has_code, one_with_code, kept_method, or_kept, select, select_virtual, select_interface, named_class, above_or, special_start, special_path, select_special}
use Rattle.jvm_model.specs.Raising.{catches, handler_in, handlers_of, handler_for}
use Rattle.order_law.specs.Pairing.{PairedList, no_more, one_more, PairedOption, both_none, both_some, PairedValue, ints, longs, nulls, PairedBase, booleans, bytes, chars, shorts, int_bases, long_bases, class_bases, PairedKind, class_kinds, array_kinds, PairedHead, PairedCell, PairedObject}
use Rattle.order_law.specs.{Numbers.Numbers, Numbers.Tested, Numbers.with_places, Forms.PairedInstr}
use Rattle.order_law.specs.Matched.{PairedPlaced, PairedHandler, PairedBody, MatchedCode, MatchedStarts}
use Rattle.order_law.proofs.Pairs.{list-append, same_cond}
use Rattle.order_law.proofs.Lists.{test-paired, both, either, cond-list, filter-paired, any-paired, all-paired, replicate-list, is_some-paired, map-paired, flat_map-paired, member-paired, mentions-paired}

pub units-paired : {a b c d : List ℕ} → a ≡ b → c ≡ d → bytes_eq a c ≡ bytes_eq b d
units-paired e g = rw (e, g)

pub pick-option : {A B : Type 0} {R : A → B → Type 0} (b c : Bool) {x u : Option A} {y v : Option B} → b ≡ c → PairedOption R x y → PairedOption R u v →
    PairedOption R (cond b x u) (cond c y v)
pick-option true true e p q = p
pick-option false false e p q = q
pick-option _ _ e p q = absurd (cc)

pub first-paired : {R : ℕ → ℕ → Type 0} (f g : ℕ → Bool) → ((x y : ℕ) → R x y → f x ≡ g y) → {xs ys : List ℕ} → PairedList R xs ys → PairedOption R (find f xs) (find g ys)
first-paired f g h no_more = both_none
first-paired f g h (one_more {x} {y} r rs) = pick-option (f x) (g y) (h x y r) (both_some r) (first-paired f g h rs)

-- what is above a class, where there is one
pub above-paired : {R : ℕ → ℕ → Type 0} (f g : ℕ → List ℕ) {o r : Option ℕ} → PairedOption R o r → ((c d : ℕ) → R c d → PairedList R (f c) (g d)) →
    PairedList R (elim o [ None ↦ [] | Some d ↦ f d ]) (elim r [ None ↦ [] | Some d ↦ g d ])
above-paired f g both_none h = no_more
above-paired f g (both_some {x} {y} e) h = h x y e

module _ (n : Numbers) (p q : Program) (mt : MatchedCode n p q) where
  abbrev C : ℕ → ℕ → Type 0
  C = Tested n.class

  abbrev F : ℕ → ℕ → Type 0
  F = Tested n.fields

  abbrev M : ℕ → ℕ → Type 0
  M = Tested n.method

  upwards_in-paired : (k c d : ℕ) → C c d → PairedList C (upwards_in p k c) (upwards_in q k d)
  upwards_in-paired zero c d e = no_more
  upwards_in-paired (suc k) c d e = one_more e (above-paired (upwards_in p k) (upwards_in q k) (mt.classes c d e).superclass (upwards_in-paired k))

  pub upwards-paired : (c d : ℕ) → C c d → PairedList C (upwards p c) (upwards q d)
  upwards-paired c d e = upwards_in-paired class_bound c d e

  lineage-paired : (k c d : ℕ) → C c d → PairedList C (lineage_in p k c) (lineage_in q k d)
  lineage-paired zero c d e = no_more
  lineage-paired (suc k) c d e = list-append (flat_map-paired C C (λ j. lineage_in p k j) (λ j. lineage_in q k j) (lineage-paired k) (mt.classes c d e).interfaces) (one_more e no_more)

  pub interfaces-paired : (c d : ℕ) → C c d → PairedList C (own_interfaces p c) (own_interfaces q d)
  unfolding own_interfaces
  interfaces-paired c d e = mentions-paired C mt.one_class (flat_map-paired C C (λ j. lineage_in p class_bound j) (λ j. lineage_in q class_bound j) (lineage-paired class_bound) (mt.classes c d e).interfaces)

  pub below-paired : (c d x y : ℕ) → C c d → C x y → is_below p c x ≡ is_below q d y
  unfolding is_below
  below-paired c d x y e g = member-paired C mt.one_class x y g (upwards-paired c d e)

  pub implements-paired : (c d x y : ℕ) → C c d → C x y → implements p c x ≡ implements q d y
  unfolding implements
  implements-paired c d x y e g = member-paired C mt.one_class x y g (flat_map-paired C C (λ j. own_interfaces p j) (λ j. own_interfaces q j) interfaces-paired (upwards-paired c d e))

  default_method-paired : (a b : ℕ) → M a b → is_default_method (method_at p a) ≡ is_default_method (method_at q b)
  default_method-paired a b e = let r = mt.methods a b e in
      both _ _ _ _ (is_some-paired (PairedBody n) r.body) (both _ _ _ _ (ap (λ (f : ℕ). not (is_static f)) r.flags) (ap (λ (x : List ℕ). not (bytes_eq x clinit_name)) r.name))

  pub defaults-paired : (c d : ℕ) → C c d → PairedList C (default_interfaces p c) (default_interfaces q d)
  unfolding default_interfaces
  defaults-paired c d e = filter-paired C (λ i. list_any (λ m. is_default_method (method_at p m)) (class_at p i).methods) (λ i. list_any (λ m. is_default_method (method_at q m)) (class_at q i).methods)
      (λ i j g. any-paired M (λ m. is_default_method (method_at p m)) (λ m. is_default_method (method_at q m)) default_method-paired (mt.classes i j g).methods) (interfaces-paired c d e)

  pub interface-paired : (c d : ℕ) → C c d → is_interface (class_at p c).flags ≡ is_interface (class_at q d).flags
  interface-paired c d e = ap is_interface (mt.classes c d e).flags

  -- classes that start alike are trivial alike
  module _ (st : MatchedStarts n p q) where
    starts-paired : (c d : ℕ) → C c d → not (declares_start p c) ≡ not (declares_start q d)
    starts-paired c d e = ap not (is_some-paired M (st.initialisers c d e))

    pub trivial-paired : (c d : ℕ) → C c d → is_trivial p c ≡ is_trivial q d
    unfolding is_trivial
    trivial-paired c d e = same_cond _ _ (interface-paired c d e) (starts-paired c d e)
        (all-paired C (λ i. not (declares_start p i) && list_all (λ j. not (declares_start p j)) (default_interfaces p i)) (λ i. not (declares_start q i) && list_all (λ j. not (declares_start q j)) (default_interfaces q i))
        (λ x y g. both _ _ _ _ (starts-paired x y g) (all-paired C (λ j. not (declares_start p j)) (λ j. not (declares_start q j)) starts-paired (defaults-paired x y g))) (upwards-paired c d e))

  layout_in-paired : {xs ys : List ℕ} → PairedList C xs ys → PairedList F (layout_in p xs) (layout_in q ys)
  layout_in-paired no_more = no_more
  layout_in-paired (one_more {x} {y} e r) = list-append (layout_in-paired r)
      (filter-paired F (λ f. not (is_static (field_at p f).flags)) (λ f. not (is_static (field_at q f).flags)) (λ f g h. ap (λ (z : ℕ). not (is_static z)) (mt.fields f g h).flags) (mt.classes x y e).fields)

  pub layout-paired : (c d : ℕ) → C c d → PairedList F (layout p c) (layout q d)
  unfolding layout
  layout-paired c d e = layout_in-paired (upwards-paired c d e)

  -- kinds
  pub class_of-paired : {h k : Kind} → PairedKind C h k → C (class_of h) (class_of k)
  class_of-paired (class_kinds e) = e
  class_of-paired (array_kinds k e) = mt.builtin object_class (omega arith)

  pub named-paired : {h k : Kind} → PairedKind C h k → C (named_class h) (named_class k)
  named-paired (class_kinds e) = e
  named-paired (array_kinds k e) = mt.builtin object_class (omega arith)

  pick-kind : (b : Bool) {x y u v : Kind} → PairedKind C x y → PairedKind C u v → PairedKind C (cond b x u) (cond b y v)
  pick-kind true r s = r
  pick-kind false r s = s

  pub element-paired : {h k : Kind} → PairedKind C h k → PairedKind C (element_kind h) (element_kind k)
  element-paired (class_kinds e) = class_kinds e
  element-paired (array_kinds k booleans) = array_kinds _ booleans
  element-paired (array_kinds k bytes) = array_kinds _ bytes
  element-paired (array_kinds k chars) = array_kinds _ chars
  element-paired (array_kinds k shorts) = array_kinds _ shorts
  element-paired (array_kinds k int_bases) = array_kinds _ int_bases
  element-paired (array_kinds k long_bases) = array_kinds _ long_bases
  element-paired (array_kinds k (class_bases e)) = pick-kind (nat_eq k 1) (class_kinds e) (array_kinds _ (class_bases e))

  class_fits-paired : (c d x y : ℕ) → C c d → C x y → class_fits p c x ≡ class_fits q d y
  unfolding class_fits
  class_fits-paired c d x y e g = either _ _ _ _ (below-paired c d x y e g) (implements-paired c d x y e g)

  base_fits-paired : {a b x y : Base} → PairedBase C a b → PairedBase C x y → base_fits p a x ≡ base_fits q b y
  base_fits-paired (class_bases {c} {d} e) (class_bases {c = x} {d = y} g) = class_fits-paired c d x y e g
  base_fits-paired booleans booleans = refl
  base_fits-paired bytes bytes = refl
  base_fits-paired chars chars = refl
  base_fits-paired shorts shorts = refl
  base_fits-paired int_bases int_bases = refl
  base_fits-paired long_bases long_bases = refl
  base_fits-paired _ _ = refl

  object-paired : (c d : ℕ) → C c d → nat_eq c object_class ≡ nat_eq d object_class
  object-paired c d e = test-paired mt.one_class c d object_class object_class e (mt.builtin object_class (omega arith))

  is_object-paired : {a b : Base} → PairedBase C a b → is_object a ≡ is_object b
  is_object-paired (class_bases {c} {d} e) = object-paired c d e
  is_object-paired _ = refl

  pub fits-paired : {a b x y : Kind} → PairedKind C a b → PairedKind C x y → kind_fits p a x ≡ kind_fits q b y
  unfolding kind_fits
  fits-paired (class_kinds {c} {d} e) (class_kinds {c = x} {d = y} g) = class_fits-paired c d x y e g
  fits-paired (class_kinds e) (array_kinds k r) = refl
  fits-paired (array_kinds k r) (class_kinds {c} {d} e) = object-paired c d e
  fits-paired (array_kinds k r) (array_kinds l s) = same_cond (nat_eq k l) (nat_eq k l) refl (base_fits-paired r s) (ap (λ (z : Bool). nat_lt l k && z) (is_object-paired s))

  -- new objects
  module _ (P : ℕ → ℕ → Type 0) where
    value-cond : (b : Bool) {x y : Value} → PairedValue (with_places n P) x x → PairedValue (with_places n P) y y → PairedValue (with_places n P) (cond b x y) (cond b x y)
    value-cond true r s = r
    value-cond false r s = s

    default-paired : (d : List ℕ) → PairedValue (with_places n P) (default_of d) (default_of d)
    default-paired [] = nulls
    default-paired (u ∷ us) = value-cond (member u (66 ∷ 67 ∷ 73 ∷ 83 ∷ 90 ∷ [])) (ints (pos 0)) (value-cond (nat_eq u 74) (longs (pos 0)) nulls)

    element_default-paired : (k : ℕ) {a b : Base} → PairedBase C a b → PairedValue (with_places n P) (element_default k a) (element_default k b)
    element_default-paired k booleans = value-cond (nat_eq k 1) (ints (pos 0)) nulls
    element_default-paired k bytes = value-cond (nat_eq k 1) (ints (pos 0)) nulls
    element_default-paired k chars = value-cond (nat_eq k 1) (ints (pos 0)) nulls
    element_default-paired k shorts = value-cond (nat_eq k 1) (ints (pos 0)) nulls
    element_default-paired k int_bases = value-cond (nat_eq k 1) (ints (pos 0)) nulls
    element_default-paired k long_bases = value-cond (nat_eq k 1) (longs (pos 0)) nulls
    element_default-paired k (class_bases e) = value-cond (nat_eq k 1) nulls nulls

    fields_of-paired : {h k : Kind} → PairedKind C h k → PairedList (PairedCell (with_places n P)) (fields_of p h) (fields_of q k)
    fields_of-paired (class_kinds {c} {d} e) = map-paired F (PairedCell (with_places n P)) (λ f. (f, default_of (field_at p f).descriptor)) (λ f. (f, default_of (field_at q f).descriptor))
        (λ f g h. record { number = h; value = subst (λ (z : List ℕ). PairedValue (with_places n P) (default_of (field_at p f).descriptor) (default_of z)) (mt.fields f g h).descriptor (default-paired (field_at p f).descriptor) }) (layout-paired c d e)
    fields_of-paired (array_kinds k e) = no_more

    elems_of-paired : {h k : Kind} (l : ℕ) → PairedKind C h k → PairedList (PairedValue (with_places n P)) (elems_of h l) (elems_of k l)
    elems_of-paired l (class_kinds e) = no_more
    elems_of-paired l (array_kinds k e) = replicate-list (PairedValue (with_places n P)) l (element_default-paired k e)

    pub blank-paired : {h k : Head} → PairedHead C h k → PairedObject (with_places n P) (blank p h) (blank q k)
    unfolding blank
    blank-paired {h} {k} r = record {
      head = r;
      fields = fields_of-paired r.kind;
      elems = subst (λ (l : ℕ). PairedList (PairedValue (with_places n P)) (elems_of h.kind h.length) (elems_of k.kind l)) r.length (elems_of-paired h.length r.kind);
      text = refl;
    }

  pub instance-paired : (c d : ℕ) → C c d → PairedHead C (instance_head c) (instance_head d)
  instance-paired c d e = record { kind = class_kinds e; length = refl }

  -- code
  pub record PairedFound (x y : Found) : Type 0 where
    pub form : PairedInstr n x.form y.form
    pub after : x.after ≡ y.after

  after-paired : {xs ys : List Placed} (e e' : ℕ) → PairedList (PairedPlaced n) xs ys → e ≡ e' → place_after xs e ≡ place_after ys e'
  after-paired e e' no_more g = g
  after-paired e e' (one_more r rs) g = r.pc

  pick-found : (b c : Bool) {x u : Option Found} {y v : Option Found} → b ≡ c → PairedOption PairedFound x y → PairedOption PairedFound u v →
      PairedOption PairedFound (elim b [ true ↦ x | false ↦ u ]) (elim c [ true ↦ y | false ↦ v ])
  pick-found true true e r s = r
  pick-found false false e r s = s
  pick-found _ _ e r s = absurd (cc)

  found-paired : {xs ys : List Placed} (e e' pc pc' : ℕ) → PairedList (PairedPlaced n) xs ys → e ≡ e' → pc ≡ pc' → PairedOption PairedFound (found_in xs e pc) (found_in ys e' pc')
  found-paired e e' pc pc' no_more g h = both_none
  found-paired e e' pc pc' (one_more {x} {y} r rs) g h = let same : nat_eq x.pc pc ≡ nat_eq y.pc pc' = rw (r.pc, h) refl in
      pick-found (nat_eq x.pc pc) (nat_eq y.pc pc') same (both_some (record { form = r.form; after = after-paired e e' rs g })) (found-paired e e' pc pc' rs g h)

  found_of-paired : {x y : Option Body} (pc pc' : ℕ) → PairedOption (PairedBody n) x y → pc ≡ pc' → PairedOption PairedFound (found_of x pc) (found_of y pc')
  found_of-paired pc pc' both_none h = both_none
  found_of-paired pc pc' (both_some {x} {y} b) h = found-paired x.length y.length pc pc' b.code b.length h

  forms : {x y : Option Found} → PairedOption PairedFound x y → PairedOption (PairedInstr n) (elim x [ None ↦ None | Some z ↦ Some z.form ]) (elim y [ None ↦ None | Some z ↦ Some z.form ])
  forms both_none = both_none
  forms (both_some r) = both_some r.form

  places : (pc pc' : ℕ) → pc ≡ pc' → {x y : Option Found} → PairedOption PairedFound x y → ◌≡◌ {A = ℕ} (elim x [ None ↦ pc | Some z ↦ z.after ]) (elim y [ None ↦ pc' | Some z ↦ z.after ])
  places pc pc' e both_none = e
  places pc pc' e (both_some r) = r.after

  pub form_at-paired : (a b pc pc' : ℕ) → M a b → pc ≡ pc' → PairedOption (PairedInstr n) (form_at p a pc) (form_at q b pc')
  unfolding form_at
  form_at-paired a b pc pc' e h = forms (found_of-paired pc pc' (mt.methods a b e).body h)

  pub next_place-paired : (a b pc pc' : ℕ) → M a b → pc ≡ pc' → next_place p a pc ≡ next_place q b pc'
  unfolding next_place
  next_place-paired a b pc pc' e h = places pc pc' h (found_of-paired pc pc' (mt.methods a b e).body h)

  -- handlers
  catches-paired : {x y : Option ℕ} (c d : ℕ) → PairedOption C x y → C c d → catches p x c ≡ catches q y d
  catches-paired c d both_none e = refl
  catches-paired c d (both_some {x} {y} g) e = below-paired c d x y e g

  handler_in-paired : {xs ys : List Handler} (pc pc' c d : ℕ) → PairedList (PairedHandler n) xs ys → pc ≡ pc' → C c d → PairedOption (λ (a : ℕ) (b : ℕ). a ≡ b) (handler_in p xs pc c) (handler_in q ys pc' d)
  handler_in-paired pc pc' c d no_more h e = both_none
  handler_in-paired pc pc' c d (one_more {x} {y} r rs) h e = let lo : nat_le x.from pc ≡ nat_le y.from pc' = rw (r.from, h) refl in let hi : nat_lt pc x.to ≡ nat_lt pc' y.to = rw (r.to, h) refl in
      pick-option _ _ (both _ _ _ _ lo (both _ _ _ _ hi (catches-paired c d r.catches e))) (both_some r.at) (handler_in-paired pc pc' c d rs h e)

  handlers-paired : {x y : Option Body} → PairedOption (PairedBody n) x y → PairedList (PairedHandler n) (handlers_of x) (handlers_of y)
  handlers-paired both_none = no_more
  handlers-paired (both_some b) = b.handlers

  pub handler-paired : (a b pc pc' c d : ℕ) → M a b → pc ≡ pc' → C c d → PairedOption (λ (a : ℕ) (b : ℕ). a ≡ b) (handler_for p a pc c) (handler_for q b pc' d)
  unfolding handler_for
  handler-paired a b pc pc' c d e h g = handler_in-paired pc pc' c d (handlers-paired (mt.methods a b e).body) h g

  -- the method that a call enters
  pub data PairedSelected : Selected → Selected → Type 0 where
    both_chosen : {a b : ℕ} → M a b → PairedSelected (chosen a) (chosen b)
    both_failing : {c d : ℕ} → C c d → PairedSelected (failing c) (failing d)

  pick-selected : (b c : Bool) {x y u v : Selected} → b ≡ c → PairedSelected x y → PairedSelected u v → PairedSelected (cond b x u) (cond c y v)
  pick-selected true true e r s = r
  pick-selected false false e r s = s
  pick-selected _ _ e r s = absurd (cc)

  like-paired : (a b x y : ℕ) → M a b → M x y → is_like p a x ≡ is_like q b y
  like-paired a b x y e g = let r = mt.methods a b e in let s = mt.methods x y g in
      both _ _ _ _ (ap (λ (f : ℕ). not (is_static f)) s.flags) (both _ _ _ _ (units-paired s.name r.name) (units-paired s.descriptor r.descriptor))

  open_like-paired : (a b x y : ℕ) → M a b → M x y → is_open_like p a x ≡ is_open_like q b y
  open_like-paired a b x y e g = both _ _ _ _ (ap (λ (f : ℕ). not (is_private f)) (mt.methods x y g).flags) (like-paired a b x y e g)

  pub methods-paired : {xs ys : List ℕ} → PairedList C xs ys → PairedList M (flat_map (λ c. (class_at p c).methods) xs) (flat_map (λ c. (class_at q c).methods) ys)
  methods-paired r = flat_map-paired C M (λ c. (class_at p c).methods) (λ c. (class_at q c).methods) (λ c d e. (mt.classes c d e).methods) r

  declared-paired : (f g : ℕ → Bool) → ((x y : ℕ) → M x y → f x ≡ g y) → {xs ys : List ℕ} → PairedList C xs ys → PairedOption M (declared_in p f xs) (declared_in q g ys)
  declared-paired f g h r = first-paired f g h (methods-paired r)

  candidates-paired : (a b c d : ℕ) → M a b → C c d → PairedList M (candidates p a c) (candidates q b d)
  candidates-paired a b c d e g = filter-paired M (λ x. is_open_like p a x) (λ x. is_open_like q b x) (λ x y h. open_like-paired a b x y e h)
      (methods-paired (mentions-paired C mt.one_class (flat_map-paired C C (λ j. own_interfaces p j) (λ j. own_interfaces q j) interfaces-paired (upwards-paired c d g))))

  redeclares-paired : (a b x y : ℕ) → M a b → M x y → redeclares p a x ≡ redeclares q b y
  redeclares-paired a b x y e g = member-paired C mt.one_class _ _ (mt.methods x y g).class (interfaces-paired _ _ (mt.methods a b e).class)

  pub kept-paired : {xs ys : List ℕ} → PairedList M xs ys → PairedList M (kept_of p xs) (kept_of q ys)
  kept-paired {xs} {ys} r = filter-paired M (λ x. not (list_any (λ a. redeclares p a x) xs)) (λ x. not (list_any (λ a. redeclares q a x) ys))
      (λ x y g. ap not (any-paired M (λ a. redeclares p a x) (λ a. redeclares q a y) (λ a b e. redeclares-paired a b x y e g) r)) r

  one-paired : {xs ys : List ℕ} → PairedList M xs ys → PairedSelected (one_with_code xs) (one_with_code ys)
  one-paired no_more = both_failing (mt.builtin abstract_method_error (omega arith))
  one-paired (one_more r no_more) = both_chosen r
  one-paired (one_more r (one_more s t)) = both_failing (mt.builtin class_change_error (omega arith))

  kept_method-paired : (a b c d : ℕ) → M a b → C c d → PairedSelected (kept_method p a c) (kept_method q b d)
  unfolding kept_method
  kept_method-paired a b c d e g = one-paired (filter-paired M (λ x. has_code p x) (λ x. has_code q x) (λ x y h. is_some-paired (PairedBody n) (mt.methods x y h).body) (kept-paired (candidates-paired a b c d e g)))

  or_kept-paired : (a b c d : ℕ) → M a b → C c d → {x y : Option ℕ} → PairedOption M x y → PairedSelected (or_kept p a c x) (or_kept q b d y)
  or_kept-paired a b c d e g both_none = kept_method-paired a b c d e g
  or_kept-paired a b c d e g (both_some r) = both_chosen r

  select-paired : (a b c d : ℕ) → M a b → C c d → PairedSelected (select p a c) (select q b d)
  unfolding select
  select-paired a b c d e g = or_kept-paired a b c d e g (declared-paired (λ x. is_open_like p a x) (λ x. is_open_like q b x) (λ x y h. open_like-paired a b x y e h) (upwards-paired c d g))

  private-paired : (a b : ℕ) → M a b → is_private (method_at p a).flags ≡ is_private (method_at q b).flags
  private-paired a b e = ap is_private (mt.methods a b e).flags

  pub virtual-paired : (a b c d : ℕ) → M a b → C c d → PairedSelected (select_virtual p a c) (select_virtual q b d)
  unfolding select_virtual
  virtual-paired a b c d e g = pick-selected _ _ (private-paired a b e) (both_chosen e) (select-paired a b c d e g)

  pub interface_call-paired : (i j a b c d : ℕ) → C i j → M a b → C c d → PairedSelected (select_interface p i a c) (select_interface q j b d)
  unfolding select_interface
  interface_call-paired i j a b c d r e g = pick-selected _ _ (private-paired a b e) (both_chosen e)
      (pick-selected _ _ (implements-paired c d i j g r) (select-paired a b c d e g) (both_failing (mt.builtin class_change_error (omega arith))))

  or_above-paired : {x y : Option ℕ} (c d : ℕ) → PairedOption C x y → C c d → C (above_or x c) (above_or y d)
  or_above-paired c d both_none e = e
  or_above-paired c d (both_some r) e = r

  pub pick-class : (b c : Bool) {x y u v : ℕ} → b ≡ c → C x y → C u v → C (cond b x u) (cond c y v)
  pick-class true true e r s = r
  pick-class false false e r s = s
  pick-class _ _ e r s = absurd (cc)

  start-paired : (c d x y : ℕ) → C c d → C x y → C (special_start p c x) (special_start q d y)
  start-paired c d x y e g = pick-class _ _ (both _ _ _ _ (ap not (test-paired mt.one_class x y c d g e)) (member-paired C mt.one_class x y g (upwards-paired c d e))) (or_above-paired x y (mt.classes c d e).superclass g) g

  path-paired : (c d : ℕ) → C c d → PairedList C (special_path p c) (special_path q d)
  path-paired c d e = cond-list C _ _ (interface-paired c d e) (one_more e (one_more (mt.builtin object_class (omega arith)) no_more)) (upwards-paired c d e)

  pub special-paired : (c d x y a b : ℕ) → C c d → C x y → M a b → PairedSelected (select_special p c x a) (select_special q d y b)
  unfolding select_special
  special-paired c d x y a b e g r = let s = start-paired c d x y e g in
      pick-selected _ _ (ap (λ (z : List ℕ). bytes_eq z init_name) (mt.methods a b r).name) (both_chosen r)
      (or_kept-paired a b _ _ r s (declared-paired (λ z. is_like p a z) (λ z. is_like q b z) (λ z w h. like-paired a b z w r h) (path-paired _ _ s)))
