-- Every built-in method over operands of its types is typed, and ends in a typed state.
use Rattle.std.proofs.Common.{◌≡◌, ℕ, ℤ, ◌-◌, ◌<◌, List, [], ◌∷◌, ◌++◌, length, take, drop, true, ◌&&◌, nat_eq, nat_lt, nat_le, pos, negsuc, refl, sym, ap, subst, Option, Some, None, IfSome, arith}
use Rattle.std.specs.Prelude.{codes}
use Rattle.std.specs.Fmt.{signed_decimal}
use Rattle.std.proofs.lemmas.Bool.{eqb-true}
use Rattle.et_base.specs.{Numbers.add64, Quotes.utf8_of}
use Rattle.jvm_model.specs.declared.{values.Value.Value, values.Kind.Kind, library.Native.Native}
use Rattle.jvm_model.specs.declared.values.Value.TheVariants.{Int, Long, Null, Lit, Obj}
use Rattle.jvm_model.specs.declared.values.Kind.TheVariants as kind
use Rattle.jvm_model.specs.declared.values.Location.TheVariants as place
use Rattle.jvm_model.specs.declared.library.Native.TheVariants as native
use Rattle.jvm_model.specs.declared.{outcome.Own.Own, outcome.Next.TheVariants.Go, outcome.Next.TheVariants.Fault, program.Program.Program}
use Rattle.jvm_model.specs.{World.World, World.size, World.make_object, Classes.blank, Classes.instance_head, Classes.method_at}
use Rattle.jvm_model.specs.{Access.Access, Access.bind, Entries.Entries, Entries.with_stack, Kinds.class_of, State.State, Step.after_native}
use Rattle.jvm_model.specs.Builtin.{string_class, builder_class, throwable_class, message_field, null_pointer_exception, string_index_exception}
use Rattle.jvm_model.specs.Rows.{Answer, answer, popping, on_int, on_long, on_object, on_text, constant_kind}
use Rattle.jvm_model.specs.Working.{Working, operands, with_operands, makes_text, answers_text, answers_found, prints, char_of, boolean_text}
use Rattle.jvm_model.specs.NativesObject.{native_object, sets_message, makes_message, keeps_string, keeps_object, native_throwable}
use Rattle.jvm_model.specs.NativesString.{hash_of, text_index, answers_part, compares, string_equals, joined, native_string, appends, appends_string, native_builder}
use Rattle.jvm_model.specs.NativesOutside.{one_text, two_texts, stepped, upper_int, changes_property, native_system, prints_string, on_printed, line_feed, native_print, native_files, native_env}
use Rattle.jvm_model.specs.Natives.{NativeGroup, of_object, of_string, of_builder, of_system, of_stream, of_files, of_env, of_throwable, native_group, native_of_group, row_native}
use Rattle.jvm_model.proofs.Locations.{size_make}
use Rattle.type_frames.specs.{declared.vtype.VType.VType, Descriptors.name_of, Typing.IsTyped}
use Rattle.type_frames.specs.declared.vtype.VType.TheVariants as vtype
use Rattle.type_frames.specs.TypedState.{kind_at, IsInRange, IsInstance, RefersTo, IsThrowable}
use Rattle.check_sound.proofs.Tree.{Tree, typed_done, typed_read, typed_write, typed_make, typed_spend, typed_known}
use Rattle.check_sound.proofs.{TreeRuns.tree_bind, Grow.Ranged, WorldKept.spot_over, Onward.grows_itself, Onward.grows_make, Blank.blank_new}
use Rattle.check_sound.proofs.Operands.{on_object-typed, on_reference-typed, head-typed, on_text-typed, choose-typed, refers_nullable}
use Rattle.check_sound.proofs.Ready.{TypedEntries, Grows, IsThrown, HasPlain, Takes, Gives, gone_on, NativeCall}
use Rattle.check_sound.proofs.Thrown.{builtin_is, thrown}
use Rattle.check_sound.proofs.Ends.{TurnsTo, Step, Tested, tested_over, new_kind, throws-typed}
use Rattle.check_sound.proofs.LibraryTypes.{object_name, string_name, builder_name, result_of, takes_of, native_takes, native_gives, string_named, builder_named, string_instance, no_builder, no_throwable, message_spot, message_set, message_got}

string_kind : (k : Kind) → nat_eq (class_of k) string_class ≡ true → k ≡ kind.Class string_class
string_kind (kind.Class c) e = ap kind.Class (eqb-true c string_class e)
string_kind (kind.Array d b) e = absurd (cc)

module _ (p : Program) (w : World) where
  refers_range : (a : List ℕ) (v : Value) → RefersTo p w a v → IsInRange p w v
  refers_range a Null h = tt
  refers_range a (Int n) h = absurd h
  refers_range a (Long n) h = absurd h
  refers_range a _ h = h.0

module _ (p : Program) (ty : IsTyped p) (P : World → Answer Working → Type 0) (w : World) (s : Working) (rest : List Value) where
  abbrev R : Access (Answer Working) → Type 0
  R t = Tree p P w t

  -- operands of these types, over those that are left
  abbrev Left : List VType → List Value → Type 0
  Left ts vs = Takes p w ts vs rest × Ranged p w vs

  -- with what the method gives on the operands below, whatever the test has of its own, the answer is good
  abbrev Gone : List VType → Type 0
  Gone r = (v : World) → Grows w v → (o : Own) (vs : List Value) → Gives p v r vs rest → P v (answer Go (record { entries = gone_on p s.entries vs; own = o }))

  abbrev Faults : Type 0
  Faults = (c : ℕ) (vs : List Value) → IsThrown p c → Ranged p w vs → P w (answer (Fault c) (with_operands s vs))

  abbrev string_type : VType
  string_type = vtype.Object string_name

  abbrev builder : List ℕ
  builder = name_of p builder_class

  abbrev throwable : List ℕ
  throwable = name_of p throwable_class

  here : Grows w w
  here = grows_itself w

  pop : (t : VType) (ts : List VType) (vs : List Value) {k : Value → List Value → Access (Answer Working)} → Left (t ∷ ts) vs → ((v : Value) (ws : List Value) → HasPlain p w t v → Left ts ws → R (k v ws)) → R (popping vs k)
  pop t ts [] h r = absurd h.0
  pop t ts (v ∷ vs) h r = r v vs h.0.0 (h.0.2, h.1.1)

  int : (v : Value) {k : ℤ → Access (Answer Working)} → HasPlain p w vtype.Int v → ((n : ℤ) → R (k n)) → R (on_int v k)
  int (Int n) h r = r n
  int _ h r = absurd h

  long : (v : Value) {k : ℤ → Access (Answer Working)} → HasPlain p w vtype.Long v → ((n : ℤ) → R (k n)) → R (on_long v k)
  long (Long n) h r = r n
  long _ h r = absurd h

  null : (vs : List Value) → Faults → Ranged p w vs → P w (answer (Fault null_pointer_exception) (with_operands s vs))
  null vs fault r = fault null_pointer_exception vs (thrown p ty.linked null_pointer_exception refl) r

  index_fault : (vs : List Value) → Faults → Ranged p w vs → P w (answer (Fault string_index_exception) (with_operands s vs))
  index_fault vs fault r = fault string_index_exception vs (thrown p ty.linked string_index_exception refl) r

  -- ---- a new String

  more : size w < size (make_object w (blank p (instance_head string_class)))
  more = let e = size_make w (blank p (instance_head string_class)) in omega arith

  new_string : RefersTo p (make_object w (blank p (instance_head string_class))) string_name (Obj (size w))
  unfolding blank
  new_string = (more, string_instance p ty.linked (kind_at (make_object w (blank p (instance_head string_class))) (size w)) (new_kind p w string_class (blank p (instance_head string_class)) refl))

  grown : Grows w (make_object w (blank p (instance_head string_class)))
  grown = grows_make p w (blank p (instance_head string_class))

  -- it is made with its text, and what comes then is typed
  makes_string : (t : List ℕ) {k : ℕ → Access (Answer Working)} → Tree p P (make_object w (blank p (instance_head string_class))) (k (size w)) → R (makes_text p t k)
  makes_string t r = typed_make (blank_new p ty w (instance_head string_class) (builtin_is p ty.linked string_class (omega arith))) (typed_write tt more tt r)

  text : (n : ℕ) (t : List ℕ) (vs : List Value) → Left [] vs → Gone (string_type ∷ []) → R (answers_text p s vs n t)
  text n t vs h go = typed_spend (makes_string t (typed_done (go (make_object w (blank p (instance_head string_class))) grown s.own (Obj (size w) ∷ vs) (new_string, more, h.0))))

  found : (n : ℕ) (o : Option (List ℕ)) (vs : List Value) → Left [] vs → Gone (string_type ∷ []) → R (answers_found p s vs n o)
  found n None vs h go = typed_spend (typed_done (go w here s.own (Null ∷ vs) (tt, tt, h.0)))
  found n (Some t) vs h go = text n t vs h go

  print : (bytes : List ℕ) (vs : List Value) → Left [] vs → Gone [] → R (prints p s vs bytes)
  print bytes vs h go = typed_spend (typed_done (go w here (record s.own { output = s.own.output ++ bytes }) vs h.0))

  gives_int : (n : ℤ) (vs : List Value) → Left [] vs → Gone (vtype.Int ∷ []) → (o : Own) → P w (answer Go (record { entries = gone_on p s.entries (Int n ∷ vs); own = o }))
  gives_int n vs h go o = go w here o (Int n ∷ vs) (tt, tt, h.0)

  reads : (r : Value) (a : List ℕ) {f : List ℕ → Access (Answer Working)} (ts : List VType) (vs : List Value) → RefersTo p w a r → Left ts vs → Faults → ((t : List ℕ) → R (f t)) → R (on_text p (with_operands s vs) r f)
  reads r a ts vs e h fault f = on_text-typed p P w (with_operands s vs) a r e (null vs fault h.1) f

  -- ---- throwables

  sets : (o : ℕ) (v : Value) (vs : List Value) → o < size w → IsInstance p (kind_at w o) throwable → RefersTo p w string_name v → Left [] vs → Gone [] → R (sets_message p s vs o v)
  sets o v vs l i e h go = typed_known o l (λ k. typed_write tt (message_spot p ty.linked w o l k i) (message_set p ty.linked w v e) (typed_done (go w here s.own vs h.0)))

  makes : (t : List ℕ) (r : Value) (vs : List Value) → RefersTo p w throwable r → Left [] vs → Gone [] → Faults → R (makes_message p s vs r t)
  makes t r vs e h go fault = on_object-typed p P w (with_operands s vs) throwable r e (no_throwable p ty.linked) (null vs fault h.1) (λ o l i.
      typed_known o l (λ k. typed_spend (makes_string t (let v = make_object w (blank p (instance_head string_class)) in
      typed_write tt (spot_over p w v grown.over (place.Field o message_field) (message_spot p ty.linked w o l k i)) (message_set p ty.linked v (Obj (size w)) new_string) (typed_done (go v grown s.own vs h.0))))))

  keeps : (x : Kind) (r v : Value) (vs : List Value) → RefersTo p w throwable r → (x ≡ kind.Class string_class → RefersTo p w string_name v) → Left [] vs → Gone [] → Faults → R (keeps_string p s vs r v (class_of x))
  keeps x r v vs e f h go fault = choose-typed p P w (nat_eq (class_of x) string_class)
      (λ q. on_object-typed p P w (with_operands s vs) throwable r e (no_throwable p ty.linked) (null vs fault h.1) (λ o l i. sets o v vs l i (f (string_kind x q)) h go))
      (λ q. typed_done (go w here s.own vs h.0))

  keeps_any : (r v : Value) (vs : List Value) → RefersTo p w throwable r → RefersTo p w object_name v → Left [] vs → Gone [] → Faults → R (keeps_object p s vs r v)
  keeps_any r Null vs e g h go fault = makes (codes "null") r vs e h go fault
  keeps_any r (Lit n) vs e g h go fault = keeps (constant_kind n) r (Lit n) vs e (λ q. (g.0, string_instance p ty.linked (constant_kind n) q)) h go fault
  keeps_any r (Obj o) vs e g h go fault = head-typed p P w o g.0 (λ k. keeps (kind_at w o) r (Obj o) vs e (λ q. (g.0, string_instance p ty.linked (kind_at w o) q)) h go fault)
  keeps_any r _ vs e g h go fault = absurd g

  -- ---- String

  index : (i : ℤ) (n : ℕ) (vs : List Value) {f : ℕ → Access (Answer Working)} → Left [] vs → Faults → ((k : ℕ) → R (f k)) → R (text_index (with_operands s vs) i n f)
  index (pos i) n vs h fault f = choose-typed p P w (nat_lt i n) (λ e. f i) (λ e. typed_done (index_fault vs fault h.1))
  index (negsuc i) n vs h fault f = typed_done (index_fault vs fault h.1)

  part : (t : List ℕ) (a b : ℤ) (vs : List Value) → Left [] vs → Gone (string_type ∷ []) → Faults → R (answers_part p s vs t a b)
  part t (pos a) (pos b) vs h go fault = choose-typed p P w (nat_le a b && nat_le b (length t)) (λ e. text 0 (take (b - a) (drop a t)) vs h go) (λ e. typed_done (index_fault vs fault h.1))
  part t _ _ vs h go fault = typed_done (index_fault vs fault h.1)

  compare : (c : ℕ) (r v : Value) (vs : List Value) → RefersTo p w string_name r → RefersTo p w object_name v → Left [] vs → Gone (vtype.Int ∷ []) → P w (answer (Fault null_pointer_exception) s) → R (compares p s vs r v c)
  compare c r v vs e g h go n = choose-typed p P w (nat_eq c string_class)
      (λ q. on_text-typed p P w s string_name r e n (λ t. on_text-typed p P w s object_name v g n (λ u. typed_spend (typed_done (gives_int _ vs h go s.own)))))
      (λ q. typed_done (gives_int _ vs h go s.own))

  equals : (r v : Value) (vs : List Value) → RefersTo p w string_name r → RefersTo p w object_name v → Left [] vs → Gone (vtype.Int ∷ []) → P w (answer (Fault null_pointer_exception) s) → R (string_equals p s vs r v)
  equals r Null vs e g h go f = typed_done (gives_int _ vs h go s.own)
  equals r (Lit n) vs e g h go f = compare (class_of (constant_kind n)) r (Lit n) vs e g h go f
  equals r (Obj o) vs e g h go f = head-typed p P w o g.0 (λ k. compare (class_of (kind_at w o)) r (Obj o) vs e g h go f)
  equals r _ vs e g h go f = absurd g

  join : (r : Value) (vs : List Value) (t u : List ℕ) → RefersTo p w string_name r → Left [] vs → Gone (string_type ∷ []) → R (joined p s vs r t u)
  join r vs t [] e h go = typed_done (go w here s.own (r ∷ vs) (e, refers_range p w string_name r e, h.0))
  join r vs t (u ∷ us) e h go = text 0 (t ++ (u ∷ us)) vs h go

  -- ---- StringBuilder

  on_builder : (r : Value) (ts : List VType) (vs : List Value) {f : ℕ → Access (Answer Working)} → RefersTo p w builder r → Left ts vs → Faults → ((o : ℕ) → o < size w → R (f o)) → R (on_object (with_operands s vs) r f)
  on_builder r ts vs e h fault f = on_object-typed p P w (with_operands s vs) builder r e (no_builder p ty.linked) (null vs fault h.1) (λ o l i. f o l)

  adds : (u : List ℕ) (r : Value) (vs : List Value) → RefersTo p w builder r → Left [] vs → Gone (vtype.Object builder_name ∷ []) → Faults → R (appends p s vs r u)
  adds u r vs e h go fault = on_builder r [] vs e h fault (λ o l. typed_read l (λ t q. typed_spend (typed_write tt l tt
      (typed_done (go w here s.own (r ∷ vs) (subst (λ (a : List ℕ). RefersTo p w a r) (builder_named p ty.linked) e, refers_range p w builder r e, h.0))))))

  appends_text : (r v : Value) (vs : List Value) → RefersTo p w builder r → RefersTo p w string_name v → Left [] vs → Gone (vtype.Object builder_name ∷ []) → Faults → R (appends_string p s vs r v)
  appends_text r Null vs e g h go fault = adds (codes "null") r vs e h go fault
  appends_text r (Lit n) vs e g h go fault = adds _ r vs e h go fault
  appends_text r (Obj o) vs e g h go fault = typed_read g.0 (λ t q. adds t r vs e h go fault)
  appends_text r _ vs e g h go fault = absurd g

  -- ---- the texts of one argument, of two

  one : {f : List ℕ → List Value → Access (Answer Working)} → Left (string_type ∷ []) (operands s) → Faults → ((t : List ℕ) (vs : List Value) → Left [] vs → R (f t vs)) → R (one_text p s f)
  one h fault f = pop string_type [] (operands s) h (λ v vs e q. reads v string_name [] vs e q fault (λ t. f t vs q))

  two : {f : List ℕ → List ℕ → List Value → Access (Answer Working)} → Left (string_type ∷ string_type ∷ []) (operands s) → Faults → ((a b : List ℕ) (vs : List Value) → Left [] vs → R (f a b vs)) → R (two_texts p s f)
  two h fault f = pop string_type (string_type ∷ []) (operands s) h (λ v vs e q. pop string_type [] vs q (λ u ws g x. on_reference-typed p P w (with_operands s ws) v (refers_nullable p w string_name v e) (null ws fault x.1) (λ n.
      reads u string_name [] ws g x fault (λ a. reads v string_name [] ws e x fault (λ b. f a b ws x)))))

  changes : (name : List ℕ) (n : ℕ) (x y : Option (List ℕ)) (vs : List Value) → Left [] vs → Gone (string_type ∷ []) → R (changes_property p s vs name n x y)
  changes name n x None vs h go = typed_spend (typed_write tt tt tt (typed_done (go w here s.own (Null ∷ vs) (tt, tt, h.0))))
  changes name n x (Some t) vs h go = typed_spend (typed_write tt tt tt (makes_string t (typed_done (go (make_object w (blank p (instance_head string_class))) grown s.own (Obj (size w) ∷ vs) (new_string, more, h.0)))))

  prints_text : (end : List ℕ) (v : Value) (vs : List Value) → RefersTo p w string_name v → Left [] vs → Gone [] → R (prints_string p s vs end v)
  prints_text end Null vs e h go = print (codes "null" ++ end) vs h go
  prints_text end (Lit n) vs e h go = print _ vs h go
  prints_text end (Obj o) vs e h go = typed_read e.0 (λ t q. print (utf8_of t ++ end) vs h go)
  prints_text end _ vs e h go = absurd e

  -- ---- the methods by group

  object-native : (x : Native) → native_group x ≡ of_object → Left (takes_of p x) (operands s) → Gone (result_of x) → R (native_object p x s)
  unfolding native_object
  object-native native.ObjectInit i h go = pop (vtype.Object (name_of p 0)) [] (operands s) h (λ r vs e q. typed_done (go w here s.own vs q.0))
  object-native native.ObjectEquals i h go = pop (vtype.Object object_name) (vtype.Object (name_of p 0) ∷ []) (operands s) h (λ v vs e q. pop (vtype.Object (name_of p 0)) [] vs q (λ r ws f u. typed_done (gives_int _ ws u go s.own)))
  object-native native.ObjectHashCode i h go = pop (vtype.Object (name_of p 0)) [] (operands s) h (λ r vs e q. typed_done (gives_int (pos 0) vs q go s.own))
  object-native _ i h go = absurd (cc)

  throwable-native : (x : Native) → native_group x ≡ of_throwable → Left (takes_of p x) (operands s) → Gone (result_of x) → Faults → R (native_throwable p x s)
  unfolding native_throwable
  throwable-native native.ThrowableInit i h go fault = pop (vtype.Object throwable) [] (operands s) h (λ r vs e q. typed_done (go w here s.own vs q.0))
  throwable-native native.ThrowableInitString i h go fault = pop string_type (vtype.Object throwable ∷ []) (operands s) h (λ v vs e q. pop (vtype.Object throwable) [] vs q (λ r ws f u.
      on_object-typed p P w (with_operands s ws) throwable r f (no_throwable p ty.linked) (null ws fault u.1) (λ o l i. sets o v ws l i e u go)))
  throwable-native native.ThrowableGetMessage i h go fault = pop (vtype.Object throwable) [] (operands s) h (λ r vs e q. on_object-typed p P w (with_operands s vs) throwable r e (no_throwable p ty.linked) (null vs fault q.1) (λ o l i.
      typed_known o l (λ k. typed_read (message_spot p ty.linked w o l k i) (λ v f. let g = message_got p ty.linked w v f in typed_done (go w here s.own (v ∷ vs) (g, refers_range p w string_name v g, q.0))))))
  throwable-native native.AssertionInitObject i h go fault = pop (vtype.Object object_name) (vtype.Object throwable ∷ []) (operands s) h (λ v vs e q. pop (vtype.Object throwable) [] vs q (λ r ws f u. keeps_any r v ws f e u go fault))
  throwable-native native.AssertionInitInt i h go fault = pop vtype.Int (vtype.Object throwable ∷ []) (operands s) h (λ v vs e q. pop (vtype.Object throwable) [] vs q (λ r ws f u. int v e (λ n. makes (signed_decimal n) r ws f u go fault)))
  throwable-native native.AssertionInitLong i h go fault = pop vtype.Long (vtype.Object throwable ∷ []) (operands s) h (λ v vs e q. pop (vtype.Object throwable) [] vs q (λ r ws f u. long v e (λ n. makes (signed_decimal n) r ws f u go fault)))
  throwable-native native.AssertionInitBoolean i h go fault = pop vtype.Int (vtype.Object throwable ∷ []) (operands s) h (λ v vs e q. pop (vtype.Object throwable) [] vs q (λ r ws f u. int v e (λ n. makes (boolean_text n) r ws f u go fault)))
  throwable-native native.AssertionInitChar i h go fault = pop vtype.Int (vtype.Object throwable ∷ []) (operands s) h (λ v vs e q. pop (vtype.Object throwable) [] vs q (λ r ws f u. int v e (λ n. makes (char_of n ∷ []) r ws f u go fault)))
  throwable-native _ i h go fault = absurd (cc)

  -- the receiver of a method of String
  string_of : (v : Value) → RefersTo p w (name_of p string_class) v → RefersTo p w string_name v
  string_of v h = subst (λ (a : List ℕ). RefersTo p w a v) (string_named p ty.linked) h

  abbrev own_string : VType
  own_string = vtype.Object (name_of p string_class)

  string-native : (x : Native) → native_group x ≡ of_string → Left (takes_of p x) (operands s) → Gone (result_of x) → Faults → P w (answer (Fault null_pointer_exception) s) → R (native_string p x s)
  unfolding native_string
  string-native native.StringLength i h go fault f0 = pop own_string [] (operands s) h (λ r vs e q. reads r _ [] vs e q fault (λ t. typed_done (gives_int _ vs q go s.own)))
  string-native native.StringIsEmpty i h go fault f0 = pop own_string [] (operands s) h (λ r vs e q. reads r _ [] vs e q fault (λ t. typed_done (gives_int _ vs q go s.own)))
  string-native native.StringCharAt i h go fault f0 = pop vtype.Int (own_string ∷ []) (operands s) h (λ v vs e q. pop own_string [] vs q (λ r ws f u. int v e (λ n. reads r _ [] ws f u fault (λ t.
      index n (length t) ws u fault (λ k. typed_done (gives_int _ ws u go s.own))))))
  string-native native.StringEquals i h go fault f0 = pop (vtype.Object object_name) (own_string ∷ []) (operands s) h (λ v vs e q. pop own_string [] vs q (λ r ws f u. equals r v ws (string_of r f) e u go f0))
  string-native native.StringHashCode i h go fault f0 = pop own_string [] (operands s) h (λ r vs e q. reads r _ [] vs e q fault (λ t. typed_spend (typed_done (gives_int (hash_of t) vs q go s.own))))
  string-native native.StringSubstringFrom i h go fault f0 = pop vtype.Int (own_string ∷ []) (operands s) h (λ v vs e q. pop own_string [] vs q (λ r ws f u. int v e (λ a. reads r _ [] ws f u fault (λ t. part t a (pos (length t)) ws u go fault))))
  string-native native.StringSubstring i h go fault f0 = pop vtype.Int (vtype.Int ∷ own_string ∷ []) (operands s) h (λ x us d k. pop vtype.Int (own_string ∷ []) us k (λ v vs e q. pop own_string [] vs q (λ r ws f u.
      int x d (λ b. int v e (λ a. reads r _ [] ws f u fault (λ t. part t a b ws u go fault))))))
  string-native native.StringConcat i h go fault f0 = pop string_type (own_string ∷ []) (operands s) h (λ v vs e q. pop own_string [] vs q (λ r ws f u. on_reference-typed p P w (with_operands s ws) v (refers_nullable p w string_name v e) (null ws fault u.1) (λ n.
      reads r _ [] ws f u fault (λ t. reads v _ [] ws e u fault (λ x. join r ws t x (string_of r f) u go)))))
  string-native native.StringToString i h go fault f0 = pop own_string [] (operands s) h (λ r vs e q. typed_done (go w here s.own (r ∷ vs) (string_of r e, refers_range p w _ r e, q.0)))
  string-native native.StringOfInt i h go fault f0 = pop vtype.Int [] (operands s) h (λ v vs e q. int v e (λ n. text 0 (signed_decimal n) vs q go))
  string-native native.StringOfLong i h go fault f0 = pop vtype.Long [] (operands s) h (λ v vs e q. long v e (λ n. text 0 (signed_decimal n) vs q go))
  string-native native.StringOfBoolean i h go fault f0 = pop vtype.Int [] (operands s) h (λ v vs e q. int v e (λ n. text 0 (boolean_text n) vs q go))
  string-native native.StringOfChar i h go fault f0 = pop vtype.Int [] (operands s) h (λ v vs e q. int v e (λ n. text 0 (char_of n ∷ []) vs q go))
  string-native _ i h go fault f0 = absurd (cc)

  abbrev own_builder : VType
  own_builder = vtype.Object (name_of p builder_class)

  builder-native : (x : Native) → native_group x ≡ of_builder → Left (takes_of p x) (operands s) → Gone (result_of x) → Faults → R (native_builder p x s)
  unfolding native_builder
  builder-native native.BuilderInit i h go fault = pop own_builder [] (operands s) h (λ r vs e q. on_builder r [] vs e q fault (λ o l. typed_write tt l tt (typed_done (go w here s.own vs q.0))))
  builder-native native.BuilderInitString i h go fault = pop string_type (own_builder ∷ []) (operands s) h (λ v vs e q. pop own_builder [] vs q (λ r ws f u. reads v _ [] ws e u fault (λ t. on_builder r [] ws f u fault (λ o l.
      typed_spend (typed_write tt l tt (typed_done (go w here s.own ws u.0)))))))
  builder-native native.BuilderAppendString i h go fault = pop string_type (own_builder ∷ []) (operands s) h (λ v vs e q. pop own_builder [] vs q (λ r ws f u. appends_text r v ws f e u go fault))
  builder-native native.BuilderAppendInt i h go fault = pop vtype.Int (own_builder ∷ []) (operands s) h (λ v vs e q. pop own_builder [] vs q (λ r ws f u. int v e (λ n. adds (signed_decimal n) r ws f u go fault)))
  builder-native native.BuilderAppendLong i h go fault = pop vtype.Long (own_builder ∷ []) (operands s) h (λ v vs e q. pop own_builder [] vs q (λ r ws f u. long v e (λ n. adds (signed_decimal n) r ws f u go fault)))
  builder-native native.BuilderAppendBoolean i h go fault = pop vtype.Int (own_builder ∷ []) (operands s) h (λ v vs e q. pop own_builder [] vs q (λ r ws f u. int v e (λ n. adds (boolean_text n) r ws f u go fault)))
  builder-native native.BuilderAppendChar i h go fault = pop vtype.Int (own_builder ∷ []) (operands s) h (λ v vs e q. pop own_builder [] vs q (λ r ws f u. int v e (λ n. adds (char_of n ∷ []) r ws f u go fault)))
  builder-native native.BuilderLength i h go fault = pop own_builder [] (operands s) h (λ r vs e q. on_builder r [] vs e q fault (λ o l. typed_read l (λ t f. typed_done (gives_int _ vs q go s.own))))
  builder-native native.BuilderToString i h go fault = pop own_builder [] (operands s) h (λ r vs e q. on_builder r [] vs e q fault (λ o l. typed_read l (λ t f. text 0 t vs q go)))
  builder-native _ i h go fault = absurd (cc)

  -- ---- System, files and the rest outside

  system-native : (x : Native) → native_group x ≡ of_system → Left (takes_of p x) (operands s) → Gone (result_of x) → Faults → R (native_system p x s)
  unfolding native_system
  system-native native.SystemClock i h go fault = typed_done (go w here (record s.own { clock = add64 s.own.clock (pos 1) }) (Long s.own.clock ∷ operands s) (tt, tt, h.0))
  system-native native.SystemGetProperty i h go fault = one h fault (λ name vs q. typed_read tt (λ c e. found (length name) c vs q go))
  system-native native.SystemSetProperty i h go fault = two h fault (λ name t vs q. typed_read tt (λ c e. changes name (length t) (Some t) c vs q go))
  system-native native.SystemClearProperty i h go fault = one h fault (λ name vs q. typed_read tt (λ c e. changes name 0 None c vs q go))
  system-native _ i h go fault = absurd (cc)

  abbrev own_stream : VType
  own_stream = vtype.Object (name_of p 4)

  on_stream : (t : VType) {f : Value → List Value → Access (Answer Working)} → Left (t ∷ own_stream ∷ []) (operands s) → ((v : Value) (vs : List Value) → HasPlain p w t v → Left [] vs → R (f v vs)) → R (on_printed s f)
  on_stream t h f = pop t (own_stream ∷ []) (operands s) h (λ v vs e q. pop own_stream [] vs q (λ r ws g u. f v ws e u))

  print-native : (x : Native) → native_group x ≡ of_stream → Left (takes_of p x) (operands s) → Gone (result_of x) → R (native_print p x s)
  unfolding native_print
  print-native native.PrintString i h go = on_stream string_type h (λ v vs e q. prints_text [] v vs e q go)
  print-native native.PrintInt i h go = on_stream vtype.Int h (λ v vs e q. int v e (λ n. print (signed_decimal n) vs q go))
  print-native native.PrintLong i h go = on_stream vtype.Long h (λ v vs e q. long v e (λ n. print (signed_decimal n) vs q go))
  print-native native.PrintBoolean i h go = on_stream vtype.Int h (λ v vs e q. int v e (λ n. print (boolean_text n) vs q go))
  print-native native.PrintChar i h go = on_stream vtype.Int h (λ v vs e q. int v e (λ n. print (utf8_of (char_of n ∷ [])) vs q go))
  print-native native.PrintlnString i h go = on_stream string_type h (λ v vs e q. prints_text line_feed v vs e q go)
  print-native native.PrintlnInt i h go = on_stream vtype.Int h (λ v vs e q. int v e (λ n. print (signed_decimal n ++ line_feed) vs q go))
  print-native native.PrintlnLong i h go = on_stream vtype.Long h (λ v vs e q. long v e (λ n. print (signed_decimal n ++ line_feed) vs q go))
  print-native native.PrintlnBoolean i h go = on_stream vtype.Int h (λ v vs e q. int v e (λ n. print (boolean_text n ++ line_feed) vs q go))
  print-native native.PrintlnChar i h go = on_stream vtype.Int h (λ v vs e q. int v e (λ n. print (utf8_of (char_of n ∷ []) ++ line_feed) vs q go))
  print-native native.Println i h go = pop own_stream [] (operands s) h (λ r vs e q. print line_feed vs q go)
  print-native _ i h go = absurd (cc)

  files-native : (x : Native) → native_group x ≡ of_files → Left (takes_of p x) (operands s) → Gone (result_of x) → Faults → R (native_files p x s)
  unfolding native_files
  files-native native.FilesRead i h go fault = one h fault (λ name vs q. typed_read tt (λ c e. found (length name) c vs q go))
  files-native native.FilesWrite i h go fault = two h fault (λ name t vs q. typed_spend (typed_write tt tt tt (typed_done (go w here s.own vs q.0))))
  files-native native.FilesAppend i h go fault = two h fault (λ name t vs q. typed_read tt (λ c e. typed_spend (typed_write tt tt tt (typed_done (go w here s.own vs q.0)))))
  files-native native.FilesDelete i h go fault = one h fault (λ name vs q. typed_read tt (λ c e. typed_spend (typed_write tt tt tt (typed_done (gives_int _ vs q go s.own)))))
  files-native native.FilesExists i h go fault = one h fault (λ name vs q. typed_read tt (λ c e. typed_spend (typed_done (gives_int _ vs q go s.own))))
  files-native _ i h go fault = absurd (cc)

  env-native : (x : Native) → native_group x ≡ of_env → Left (takes_of p x) (operands s) → Gone (result_of x) → R (native_env p x s)
  unfolding native_env
  env-native native.EnvPrint i h go = pop vtype.Int [] (operands s) h (λ v vs e q. int v e (λ n. print (signed_decimal n ++ line_feed) vs q go))
  env-native native.EnvRandom i h go = typed_done (go w here (record s.own { random = stepped s.own.random }) (upper_int (stepped s.own.random) ∷ operands s) (tt, tt, h.0))
  env-native _ i h go = absurd (cc)

  by_group : (g : NativeGroup) (x : Native) → native_group x ≡ g → Left (takes_of p x) (operands s) → Gone (result_of x) → Faults → P w (answer (Fault null_pointer_exception) s) → R (native_of_group g p x s)
  by_group of_object x i h go fault f0 = object-native x i h go
  by_group of_string x i h go fault f0 = string-native x i h go fault f0
  by_group of_builder x i h go fault f0 = builder-native x i h go fault
  by_group of_system x i h go fault f0 = system-native x i h go fault
  by_group of_stream x i h go fault f0 = print-native x i h go
  by_group of_files x i h go fault f0 = files-native x i h go fault
  by_group of_env x i h go fault f0 = env-native x i h go
  by_group of_throwable x i h go fault f0 = throwable-native x i h go fault

  -- the row of a built-in method
  row-typed : (x : Native) → Left (takes_of p x) (operands s) → Gone (result_of x) → Faults → P w (answer (Fault null_pointer_exception) s) → R (row_native p x s)
  unfolding row_native
  row-typed x h go fault f0 = by_group (native_group x) x refl h go fault f0

module _ (p : Program) (ty : IsTyped p) {w : World} where
  -- A built-in method, and how its step ends. Nothing is raised where a method is called.
  pub native-typed : (x : Native) (m : ℕ) (s : State) (t : Entries) → (method_at p m).native ≡ Some x → s.raised ≡ None → NativeCall p w m t → Tested p w s → Step p w (bind (row_native p x (record { entries = t; own = s.own })) (after_native p s))
  native-typed x m s t e n call q =
      let start : Working = record { entries = t; own = s.own } in
      let good : World → Answer Working → Type 0 = λ v a. Step p v (after_native p s a) in
      tree_bind p good (TurnsTo p) (row_native p x start) (after_native p s) w
      (row-typed p ty good w start call.rest x (native_takes p ty.linked w m x t.top.stack call.rest e call.takes, call.range)
      (λ v g o vs h. typed_done (record {
        test = q.test;
        entries = subst (λ (r : Option Value). TypedEntries p v r (gone_on p t vs)) (sym n) (call.answered v g vs (subst (λ (ts : List VType). Gives p v ts vs call.rest) (sym (native_gives p ty.linked m x e)) h));
        raised = subst (λ (r : Option Value). IfSome r (IsThrowable p v)) (sym n) tt;
        stage = (tested_over p w v g.over s q).stage;
      }))
      (λ c vs i h. fault c vs i h)
      (fault null_pointer_exception t.top.stack (thrown p ty.linked null_pointer_exception refl) call.range))
      (λ v a k. k)
    where
      fault : (c : ℕ) (vs : List Value) → IsThrown p c → Ranged p w vs → Step p w (after_native p s (answer (Fault c) (record { entries = with_stack t vs; own = s.own })))
      fault c vs i h = throws-typed p ty c (record s { entries = with_stack t vs; own = s.own }) i (call.faulted w (grows_itself w) vs h) (record { test = q.test; stage = q.stage })
