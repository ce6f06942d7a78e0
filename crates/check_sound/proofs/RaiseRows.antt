-- A throwable is raised into the method frame at the top: its handler is entered, or the frame is popped.
use Rattle.std.proofs.Common.{◌≡◌, ℕ, suc, ◌<◌, List, [], ◌∷◌, ◌++◌, length, map, Bool, true, false, not, ◌&&◌, cond, nat_eq, nat_lt, nat_le, Option, Some, None, IfSome, slice_get, All, refl, sym, ◌∙◌, ap, subst, arith}
use Rattle.std.specs.Prelude.{flat_map}
use Rattle.std.specs.List.{list_any, IsDistinct}
use Rattle.std.proofs.lemmas.{Bool.and_parts, Bool.or_left, Bool.or_right, Bool.eq-eqb, Option.same_Some, List.Elements.All-nil}
use Rattle.jvm_model.specs.declared.values.{Value.Value, Kind.Kind}
use Rattle.jvm_model.specs.declared.values.Value.TheVariants as value
use Rattle.jvm_model.specs.declared.values.Kind.TheVariants as kind
use Rattle.jvm_model.specs.declared.state.{EntryKind.EntryKind, EntryKind.TheVariants.Absent, EntryKind.TheVariants.InMethod, EntryKind.TheVariants.InClass}
use Rattle.jvm_model.specs.declared.program.{Program.Program, Body.Body, Placed.Placed, Handler.Handler}
use Rattle.jvm_model.specs.{World.World, World.size, Builtin.object_class, Builtin.throwable_class, Classes.method_at, Classes.is_below, Kinds.class_of}
use Rattle.jvm_model.specs.Entries.{Entry, Entries, entries_of, no_entries, entry_limit}
use Rattle.jvm_model.specs.Linked.{IsClass, IsKind, IsHandler, IsPlace, NamesBody}
use Rattle.jvm_model.specs.Raising.{catches, handler_in, handlers_of, handler_for, handled, row_raise}
use Rattle.type_frames.specs.{Frames.Slots, Descriptors.name_of, StackEffect.object_of, Typing.IsTyped}
use Rattle.type_frames.specs.Environment.{Environment, environment_of, is_target}
use Rattle.type_frames.specs.Rules.{covers, caught, thrown, handles, all_handle, fits_at}
use Rattle.type_frames.specs.TypedState.{kind_at, IsInstance, Stands, Goes, IsTop, IsBelow, class_begun, IsThrowable}
use Rattle.type_frames.proofs.AssignLaws.{object_below}
use Rattle.check_sound.proofs.{Tree.Tree, Tree.typed_done, Grow.Ranged, Operands.head-typed, Instances.below_instance, Thrown.builtin_is}
use Rattle.check_sound.proofs.Held.{Held, Locals, on_top, nothing_held}
use Rattle.check_sound.proofs.Arrive.{has_number, kept_at, is_body, arrived_at, placed_at, handler_target, or_second}
use Rattle.check_sound.proofs.Ready.{TypedEntries, stub, Rest, IsEntry, opened, closed, below_same, Quiet}

-- ---- the entry below one

pub record Beneath (p : Program) (w : World) (k : EntryKind) (n : ℕ) (f : Entry) (fs : List Entry) : Type 0 where
  pub is : IsBelow p w f f.kind (stub k n) k
  pub stack : Ranged p w f.stack
  pub locals : Ranged p w f.locals
  pub rest : Rest p w f.kind f.number fs

tail_distinct : (k : EntryKind) (n : ℕ) (cs : List ℕ) → IsDistinct nat_eq (class_begun (stub k n) ++ cs) → IsDistinct nat_eq cs
unfolding IsDistinct
tail_distinct (InClass b) n cs h = h.1
tail_distinct _ n cs h = h

pub beneath : {p : Program} {w : World} {k : EntryKind} {n : ℕ} {f : Entry} {fs : List Entry} → Rest p w k n (f ∷ fs) → Beneath p w k n f fs
beneath {p = p} {w = w} {k = k} {n = n} {f = f} {fs = fs} r = record {
  is = r.each.0;
  stack = r.range.0;
  locals = r.range.1;
  rest = record {
    each = below_same p w f (stub f.kind f.number) refl refl fs r.each.1;
    range = r.range.2;
    few = (let h : suc (length fs) < entry_limit = r.few in omega arith);
    apart = tail_distinct k n (class_begun f ++ flat_map class_begun fs) r.apart;
  };
}

-- no entry at all
pub none_typed : {p : Program} {w : World} (raised : Option Value) → TypedEntries p w raised no_entries
unfolding IsDistinct
none_typed raised = record { references = All-nil _; few = omega arith; alone = λ q. refl; top = tt; below = tt; one_each = tt }

-- something is raised into the entries below one
pub raised_below : {p : Program} {w : World} {k : EntryKind} {n : ℕ} (v : Value) (fs : List Entry) → Rest p w k n fs → TypedEntries p w (Some v) (entries_of fs)
raised_below v [] r = none_typed (Some v)
raised_below {p = p} {w = w} {k = k} {n = n} v (f ∷ fs) r =
    let b = beneath r in
    closed (Some v) f (stands f.kind k b.is).0 (stands f.kind k b.is).1 b.stack b.locals b.rest
  where
    stands : (i j : EntryKind) → IsBelow p w f i (stub k n) j → IsEntry i × IsTop p w (Some v) i f
    stands InMethod Absent h = absurd h
    stands (InClass x) j h = (tt, h.0)
    stands Absent j h = absurd h
    stands InMethod _ h = (tt, h.stands)

-- ---- handlers

-- the handler that catches
record Catching (p : Program) (b : Body) (e : Environment) (f : Slots) (c to : ℕ) (hs : List Handler) : Type 0 where
  handler : Handler
  to_is : handler.at ≡ to
  catches_it : catches p handler.catches c ≡ true
  fits : fits_at p e (thrown p f handler) handler.at ≡ true
  place : IsPlace b handler.at
  class : IfSome handler.catches (λ d. IsClass p d)
  there : list_any (λ m. nat_eq m handler.at) (map (λ h. h.at) hs) ≡ true

catching : (p : Program) (b : Body) (e : Environment) (f : Slots) (c pc to : ℕ) (hs : List Handler) → All (λ h. IsHandler b h) hs → All (λ h. IfSome h.catches (λ d. IsClass p d)) hs → all_handle p e pc f hs ≡ true → handler_in p hs pc c ≡ Some to → Catching p b e f c to hs
catching p b e f c pc to [] ih ic a q = absurd (cc)
catching p b e f c pc to (h ∷ hs) ih ic a q =
    by (covers h pc) refl (catches p h.catches c) refl
    (catching p b e f c pc to hs (λ k d g. ih (suc k) d (omega arith)) (λ k d g. ic (suc k) d (omega arith)) (and_parts (handles p e pc f h) (all_handle p e pc f hs) a).1)
  where
    joined : (x y z : Bool) → x ≡ (y && z) → (t : Bool) → (y && (z && t)) ≡ (x && t)
    joined x true true g t = ap (λ k. k && t) (sym g)
    joined x _ _ g t = ap (λ k. k && t) (sym g)

    later : Catching p b e f c to hs → Catching p b e f c to (h ∷ hs)
    later r = record { handler = r.handler; to_is = r.to_is; catches_it = r.catches_it; fits = r.fits; place = r.place; class = r.class; there = or_right (nat_eq h.at r.handler.at) (list_any (λ m. nat_eq m r.handler.at) (map (λ h. h.at) hs)) r.there }

    by : (x : Bool) → covers h pc ≡ x → (y : Bool) → catches p h.catches c ≡ y → (handler_in p hs pc c ≡ Some to → Catching p b e f c to hs) → Catching p b e f c to (h ∷ hs)
    by true ex true ey r =
        let z : Some h.at ≡ Some to = sym (ap (λ (k : Bool). cond k (Some h.at) (handler_in p hs pc c)) (joined (covers h pc) (nat_le h.from pc) (nat_lt pc h.to) refl (catches p h.catches c) ∙ (ap (λ (k : Bool). k && catches p h.catches c) ex ∙ ey))) ∙ q in
        let g = or_second (covers h pc) (nat_lt 0 e.body.max_stack && (not (e.starts && f.flag) && fits_at p e (thrown p f h) h.at)) ex (and_parts (handles p e pc f h) (all_handle p e pc f hs) a).0 in
        record {
          handler = h;
          to_is = same_Some _ _ z;
          catches_it = ey;
          fits = (and_parts (not (e.starts && f.flag)) (fits_at p e (thrown p f h) h.at) (and_parts (nat_lt 0 e.body.max_stack) (not (e.starts && f.flag) && fits_at p e (thrown p f h) h.at) g).1).1;
          place = (ih 0 h (omega arith)).at;
          class = ic 0 h (omega arith);
          there = or_left (nat_eq h.at h.at) (list_any (λ m. nat_eq m h.at) (map (λ h. h.at) hs)) (eq-eqb h.at h.at refl);
        }
    by true ex false ey r =
        let z : handler_in p hs pc c ≡ Some to = sym (ap (λ (k : Bool). cond k (Some h.at) (handler_in p hs pc c)) (joined (covers h pc) (nat_le h.from pc) (nat_lt pc h.to) refl (catches p h.catches c) ∙ (ap (λ (k : Bool). k && catches p h.catches c) ex ∙ ey))) ∙ q in
        later (r z)
    by false ex y ey r =
        let z : handler_in p hs pc c ≡ Some to = sym (ap (λ (k : Bool). cond k (Some h.at) (handler_in p hs pc c)) (joined (covers h pc) (nat_le h.from pc) (nat_lt pc h.to) refl (catches p h.catches c) ∙ ap (λ (k : Bool). k && catches p h.catches c) ex)) ∙ q in
        later (r z)

-- a throwable, by the name of its class
pub throwable_instance : (p : Program) (ty : IsTyped p) (x : Kind) → IsKind p x → is_below p (class_of x) throwable_class ≡ true → IsInstance p x (name_of p throwable_class)
throwable_instance p ty (kind.Class c) i b = below_instance p ty.linked c throwable_class i (builtin_is p ty.linked throwable_class (omega arith)) b
throwable_instance p ty (kind.Array d x) i b = absurd (let z : throwable_class ≡ object_class = object_below p ty.linked throwable_class b in cc)

module _ (p : Program) (ty : IsTyped p) (w : World) where
  -- what is caught is an instance of what the handler names
  caught_type : (o : ℕ) (h : Handler) → o < size w → IsKind p (kind_at w o) → is_below p (class_of (kind_at w o)) throwable_class ≡ true → catches p h.catches (class_of (kind_at w o)) ≡ true → IfSome h.catches (λ d. IsClass p d) → IsInstance p (kind_at w o) (name_of p (caught h))
  caught_type o h lt i t c k = by (kind_at w o) h.catches i t c k
    where
      by : (x : Kind) (d : Option ℕ) → IsKind p x → is_below p (class_of x) throwable_class ≡ true → catches p d (class_of x) ≡ true → IfSome d (λ d. IsClass p d) → IsInstance p x (name_of p (elim d as (λ z. ℕ) [ None ↦ throwable_class | Some c ↦ c ]))
      by (kind.Array m b) d i t c k = absurd (let z : throwable_class ≡ object_class = object_below p ty.linked throwable_class t in cc)
      by (kind.Class a) None i t c k = below_instance p ty.linked a throwable_class i (builtin_is p ty.linked throwable_class (omega arith)) t
      by (kind.Class a) (Some d) i t c k = below_instance p ty.linked a d i k c

module _ (p : Program) (ty : IsTyped p) {w : World} {s : Entries} where
  handled-typed : (o : ℕ) (x : Option ℕ) → handler_for p s.top.number s.top.pc (class_of (kind_at w o)) ≡ x → s.top.kind ≡ InMethod → o < size w → IsKind p (kind_at w o) → is_below p (class_of (kind_at w o)) throwable_class ≡ true → TypedEntries p w (Some (value.Obj o)) s → Tree p (Quiet p) w (handled (value.Obj o) s x)
  unfolding handler_for
  handled-typed o None q k lt i t e =
      let c = opened (Some (value.Obj o)) s (subst (λ (x : EntryKind). IsEntry x) (sym k) tt) e in
      typed_done ((lt, t), raised_below (value.Obj o) s.below c.rest)
  handled-typed o (Some to) q k lt i t e =
      let c = opened (Some (value.Obj o)) s (subst (λ (x : EntryKind). IsEntry x) (sym k) tt) e in
      let st : Stands p w s.top = subst (λ (x : EntryKind). IsTop p w (Some (value.Obj o)) x s.top) k e.top in
      let env = environment_of p (method_at p s.top.number) st.body st.given in
      let x : Placed = record { pc = s.top.pc; form = st.instruction.form } in
      let th : slice_get st.body.code st.index ≡ Some x = st.there ∙ ap {B = Option Placed} (λ q. Some (record { pc = q; form = st.instruction.form })) st.place in
      let kept = kept_at p ty s.top.number st.body st.given st.has_code st.has_frames st.index x st.types th st.known in
      let names = subst (λ (z : Option Body). IfSome z (λ b. NamesBody p b)) st.has_code (ty.linked.numbers.bodies s.top.number (has_number p s.top.number st.body st.has_code)) in
      let body = is_body p ty s.top.number st.body st.given st.has_code st.has_frames in
      let found : handler_in p st.body.handlers s.top.pc (class_of (kind_at w o)) ≡ Some to = sym (ap (λ (z : Option Body). handler_in p (handlers_of z) s.top.pc (class_of (kind_at w o))) st.has_code) ∙ q in
      let h = catching p st.body env st.types (class_of (kind_at w o)) s.top.pc to st.body.handlers body.handlers names.handlers kept.nine found in
      let y = placed_at st.body h.handler.at h.place in
      let is = caught_type p ty w o h.handler lt i t h.catches_it h.class in
      let ls : Locals p w env st.types.locals s.top.locals = record { types = st.locals; range = c.locals } in
      let vs : Held p w env (object_of p (caught h.handler) ∷ []) (value.Obj o ∷ []) = on_top tt (record { type = (lt, is); range = lt }) nothing_held in
      let g = arrived_at p ty s.top.number st.body st.given st.has_code st.has_frames w y.0 y.1 (thrown p st.types h.handler) s.top.locals (value.Obj o ∷ []) y.2
      (subst (λ (n : ℕ). is_target env n ≡ true) (sym y.3) (handler_target env h.handler.at h.there)) (subst (λ (n : ℕ). fits_at p env (thrown p st.types h.handler) n ≡ true) (sym y.3) h.fits) ls vs in
      let go : Goes p w (record { kind = InMethod; number = s.top.number; pc = to; stack = value.Obj o ∷ []; locals = s.top.locals }) = subst (λ (n : ℕ). Goes p w (record { kind = InMethod; number = s.top.number; pc = n; stack = value.Obj o ∷ []; locals = s.top.locals })) (y.3 ∙ h.to_is) g in
      typed_done (subst (λ (z : EntryKind). TypedEntries p w None (record { top = record { kind = z; number = s.top.number; pc = to; stack = value.Obj o ∷ []; locals = s.top.locals }; below = s.below })) (sym k)
      (closed None (record { kind = InMethod; number = s.top.number; pc = to; stack = value.Obj o ∷ []; locals = s.top.locals }) tt go vs.range c.locals (subst (λ (z : EntryKind). Rest p w z s.top.number s.below) k c.rest)))

  pub raise-typed : (v : Value) → s.top.kind ≡ InMethod → IsThrowable p w v → TypedEntries p w (Some v) s → Tree p (Quiet p) w (row_raise p v s)
  unfolding row_raise
  raise-typed (value.Obj o) k t e = head-typed p (Quiet p) w o t.0 (λ i. handled-typed o (handler_for p s.top.number s.top.pc (class_of (kind_at w o))) refl k t.0 i t.1 e)
  raise-typed _ k t e = absurd t
