-- The classes that steps throw by themselves are classes of throwables.
use Rattle.std.proofs.Common.{◌≡◌, ℕ, zero, suc, ◌<◌, List, [], ◌∷◌, length, get_or, Bool, true, false, ◌&&◌, ◌||◌, nat_eq, nat_lt, Option, Some, None, refl, sym, ◌∙◌, ap, subst, arith, inl, inr}
use Rattle.std.specs.List.{list_all, list_any}
use Rattle.std.specs.Prelude.{codes}
use Rattle.std.proofs.lemmas.Bool.{and_parts, or_cases, or_right, eqb-true, ltb-true}
use Rattle.jvm_model.specs.declared.program.{Program.Program, ClassRec.ClassRec}
use Rattle.jvm_model.specs.{Builtin.object_class, Builtin.throwable_class, Builtin.builtin_count, Library.builtin_defs, Library.builtin_classes, Linked.Linked}
use Rattle.jvm_model.specs.Classes.{no_class, class_at, is_below, upwards, member}
use Rattle.jvm_model.proofs.{BuiltinRules.enough_classes, BuiltinRules.builtin_class, Upwards.upwards_step, Upwards.upwards_root, Upwards.below_same}
use Rattle.type_frames.specs.Descriptors.{name_of}
use Rattle.check_sound.proofs.Ready.{IsThrown, any_all}

-- the built-in classes below Throwable
abbrev pub throwables : List ℕ
throwables = 8 ∷ 9 ∷ 10 ∷ 11 ∷ 12 ∷ 13 ∷ 14 ∷ 15 ∷ 16 ∷ 17 ∷ 18 ∷ 19 ∷ 20 ∷ 21 ∷ 22 ∷ 23 ∷ 24 ∷ 25 ∷ 26 ∷ 27 ∷ 28 ∷ 29 ∷ 30 ∷ 31 ∷ []

abbrev pub is_throwable : ℕ → Bool
is_throwable c = list_any (λ m. nat_eq m c) throwables

-- a class that comes to Throwable in at most so many steps upwards
abbrev rises : ℕ → ClassRec → Bool
rises zero x = false
rises (suc k) x = elim x.superclass [ None ↦ false | Some d ↦ nat_lt d builtin_count && (nat_eq d throwable_class || rises k (get_or builtin_classes d no_class)) ]

all_rise : list_all (λ c. nat_lt c builtin_count && rises 6 (get_or builtin_classes c no_class)) throwables ≡ true
unfolding builtin_classes builtin_defs
all_rise = refl

module _ (p : Program) (lk : Linked p) where
  pub builtin_is : (c : ℕ) → c < builtin_count → c < length p.classes
  builtin_is c h = let b = enough_classes p lk.builtins in omega arith

  -- a class right under Object
  pub under_object : (c : ℕ) → c < builtin_count → (get_or builtin_classes c no_class).superclass ≡ Some object_class → upwards p c ≡ c ∷ object_class ∷ []
  under_object c h e =
      upwards_step p lk c object_class (builtin_is c h) (ap (λ (x : ClassRec). x.superclass) (builtin_class p lk.builtins c h) ∙ e)
      ∙ ap {B = List ℕ} (λ xs. c ∷ xs) (upwards_root p lk object_class lk.listed.top)

  pub object_named : name_of p object_class ≡ codes "java/lang/Object"
  unfolding builtin_classes builtin_defs
  object_named = ap (λ (r : ClassRec). r.name) (builtin_class p lk.builtins 0 (omega arith))

  above : (c d : ℕ) → c < builtin_count → (get_or builtin_classes c no_class).superclass ≡ Some d → is_below p d throwable_class ≡ true → is_below p c throwable_class ≡ true
  unfolding is_below
  above c d h e b =
      let s : (class_at p c).superclass ≡ Some d = ap (λ (x : ClassRec). x.superclass) (builtin_class p lk.builtins c h) ∙ e in
      subst (λ (xs : List ℕ). member throwable_class xs ≡ true) (sym (upwards_step p lk c d (builtin_is c h) s)) (or_right (nat_eq throwable_class c) (member throwable_class (upwards p d)) b)

  below_throwable : (k c : ℕ) → c < builtin_count → rises k (get_or builtin_classes c no_class) ≡ true → is_below p c throwable_class ≡ true
  below_throwable zero c h e = absurd (cc)
  below_throwable (suc k) c h e = by (get_or builtin_classes c no_class).superclass refl (λ d i z. below_throwable k d i z) e
    where
      by : (o : Option ℕ) → (get_or builtin_classes c no_class).superclass ≡ o → ((d : ℕ) → d < builtin_count → rises k (get_or builtin_classes d no_class) ≡ true → is_below p d throwable_class ≡ true)
          → elim o as (λ x. Bool) [ None ↦ false | Some d ↦ nat_lt d builtin_count && (nat_eq d throwable_class || rises k (get_or builtin_classes d no_class)) ] ≡ true → is_below p c throwable_class ≡ true
      by None q f e = absurd (cc)
      by (Some d) q f e =
          let a = and_parts (nat_lt d builtin_count) (nat_eq d throwable_class || rises k (get_or builtin_classes d no_class)) e in
          above c d h q (elim (or_cases (nat_eq d throwable_class) (rises k (get_or builtin_classes d no_class)) a.1) [
            | inl z ↦ subst (λ (y : ℕ). is_below p y throwable_class ≡ true) (sym (eqb-true d throwable_class z)) (below_same p throwable_class)
            | inr z ↦ f d (ltb-true d builtin_count a.0) z
          ])

  -- each of them is a class of throwables
  pub thrown : (c : ℕ) → is_throwable c ≡ true → IsThrown p c
  thrown c e =
      let a = and_parts (nat_lt c builtin_count) (rises 6 (get_or builtin_classes c no_class)) (any_all c throwables (λ c. nat_lt c builtin_count && rises 6 (get_or builtin_classes c no_class)) e all_rise) in
      let h = ltb-true c builtin_count a.0 in (builtin_is c h, below_throwable 6 c h a.1)
