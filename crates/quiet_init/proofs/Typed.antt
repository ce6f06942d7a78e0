-- The program without quiet initialisers is typed (JVMS 4.10.1).
use Rattle.std.proofs.Common.{◌≡◌, ℕ, ◌+◌, List, Bool, true, false, cond, Option, Some, None, is_some, refl, sym, ◌∙◌, ap, subst, arith}
use Rattle.std.specs.Prelude.{slice_get}
use Rattle.std.proofs.lemmas.Option.{slice_get_within, slice_get-get_or, get_or_from_slice_get}
use Rattle.jvm_model.specs.declared.program.{ClassRec.ClassRec, MethodRec.MethodRec, Program.Program}
use Rattle.jvm_model.specs.{Builtin.builtin_count, Classes.no_class, Classes.class_at, Classes.field_at, Classes.method_at}
use Rattle.type_frames.specs.declared.vtype.Frame.{Frame}
use Rattle.type_frames.specs.Typing.{unsupported_field, unsupported_method, given_classes, IsTypedMethod, IsTyped}
use Rattle.check_sound.proofs.Arrive.{slice_get_drop}
use Rattle.quiet_init.specs.{Quiet.is_quiet, Quiet.quiet, TypedAgain.TypedAgain}
use Rattle.quiet_init.proofs.{KeptLinks.linked_kept, KeptRules.given_frames_kept, KeptRules.environment_kept, KeptRules.breach_kept, KeptRules.all_frames_kept}
use Rattle.quiet_init.proofs.Parts.{class_count, class_is, field_part}

-- a class as it was, or without its initialiser
abbrev stripped : Bool → ClassRec → ClassRec
stripped b c = cond b (record c { initialiser = None }) c

-- a given class comes from the one at its place
pub record Same (p : Program) (i : ℕ) (c : ClassRec) : Type 0 where
  pub was : ClassRec
  pub there : slice_get (given_classes p) i ≡ Some was
  pub quiet : Bool
  pub is : c ≡ stripped quiet was

module _ (p : Program) where
  same : (i : ℕ) (c : ClassRec) → slice_get (given_classes (quiet p)) i ≡ Some c → Same p i c
  same i c e =
      let h : slice_get (quiet p).classes (builtin_count + i) ≡ Some c = sym (slice_get_drop (quiet p).classes builtin_count i) ∙ e in
      let l = slice_get_within (quiet p).classes (builtin_count + i) c h in
      let n = class_count p in
      record {
        was = class_at p (builtin_count + i);
        there = slice_get_drop p.classes builtin_count i ∙ slice_get-get_or p.classes (builtin_count + i) no_class (omega arith);
        quiet = is_quiet p (builtin_count + i);
        is = sym (get_or_from_slice_get (quiet p).classes (builtin_count + i) c no_class h) ∙ class_is p (builtin_count + i);
      }

  method_typed : (m : MethodRec) → IsTypedMethod p m → IsTypedMethod (quiet p) m
  method_typed m t = record {
    frames = λ b e. ap (λ (o : Option (List Frame)). is_some o) (given_frames_kept p m) ∙ t.frames b e;
    each = λ b gs k x e g s. (λ i. breach_kept p (environment_kept p m b gs i) k x i) ∙ t.each b gs k x e (sym (given_frames_kept p m) ∙ g) s;
  }

  -- what is said of the members of a class
  field_served : (b : Bool) (was : ClassRec) (n k : ℕ) → ((n : ℕ) → slice_get was.fields k ≡ Some n → unsupported_field was (field_at p n) ≡ None) →
      slice_get (stripped b was).fields k ≡ Some n → unsupported_field (stripped b was) (field_at (quiet p) n) ≡ None
  field_served true was n k h e = field_part p (unsupported_field was) (λ x v. refl) n ∙ h n e
  field_served false was n k h e = field_part p (unsupported_field was) (λ x v. refl) n ∙ h n e

  member_served : (b : Bool) (was : ClassRec) (n k : ℕ) → ((n : ℕ) → slice_get was.methods k ≡ Some n → unsupported_method was (method_at p n) ≡ None) →
      slice_get (stripped b was).methods k ≡ Some n → unsupported_method (stripped b was) (method_at (quiet p) n) ≡ None
  unfolding quiet
  member_served true was n k h e = h n e
  member_served false was n k h e = h n e

  member_typed : (b : Bool) (was : ClassRec) (n k : ℕ) → ((n : ℕ) → slice_get was.methods k ≡ Some n → IsTypedMethod p (method_at p n)) →
      slice_get (stripped b was).methods k ≡ Some n → IsTypedMethod (quiet p) (method_at (quiet p) n)
  unfolding quiet
  member_typed true was n k h e = method_typed (method_at p n) (h n e)
  member_typed false was n k h e = method_typed (method_at p n) (h n e)

  pub typed_kept : IsTyped p → IsTyped (quiet p)
  typed_kept ty = record {
    linked = linked_kept p ty;
    fields = λ i k n c e. let s = same i c e in
        subst (λ (x : ClassRec). slice_get x.fields k ≡ Some n → unsupported_field x (field_at (quiet p) n) ≡ None) (sym s.is) (field_served s.quiet s.was n k (λ n. ty.fields i k n s.was s.there));
    members = λ i k n c e. let s = same i c e in
        subst (λ (x : ClassRec). slice_get x.methods k ≡ Some n → unsupported_method x (method_at (quiet p) n) ≡ None) (sym s.is) (member_served s.quiet s.was n k (λ n. ty.members i k n s.was s.there));
    methods = λ i k n c e. let s = same i c e in
        subst (λ (x : ClassRec). slice_get x.methods k ≡ Some n → IsTypedMethod (quiet p) (method_at (quiet p) n)) (sym s.is) (member_typed s.quiet s.was n k (λ n. ty.methods i k n s.was s.there));
  }

pub typed_again : TypedAgain
typed_again p ty = (typed_kept p ty, all_frames_kept p)
