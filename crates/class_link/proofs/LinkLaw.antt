-- What linking answers is a linked program.
use Rattle.std.proofs.Common.{◌≡◌, ℕ, ◌+◌, ◌≤◌, List, [], length, slice_get, Bool, true, is_none, refl, sym, subst, inl, inr, arith, Option, Some, None, IfSome, IfOk, Result, Ok, Err, All}
use Rattle.std.specs.Prelude.{option_map}
use Rattle.std.specs.List.{list_all}
use Rattle.std.proofs.lemmas.List.Elements.{All-nil}
use Rattle.class_reader.specs.declared.parts.{ClassParts.ClassParts, MemberPart.MemberPart, CodePart.CodePart}
use Rattle.class_reader.specs.ClassGrammar as grammar
use Rattle.class_reader.proofs.{ClassFacts.class_facts, MemberFacts.MethodFacts, PartFacts.PartFacts}
use Rattle.jvm_model.specs.declared.program.{Program.Program, MethodRec.MethodRec, Body.Body, TestEntry.TestEntry}
use Rattle.jvm_model.specs.{Builtin.builtin_count, Library.builtin_defs, Library.builtin_methods, Classes.method_at, Classes.is_static, Lookup.find_method}
use Rattle.jvm_model.specs.Linked.{IsMethod, NamesBody, IsBodyKind, IsBody, IsFormFound, is_interface_at, Linked}
use Rattle.jvm_model.proofs.{BuiltinRules.method_keeps, Ranges.all_there}
use Rattle.class_link.specs.{declared.fault.LinkFault.LinkFault, declared.lines.TestLines.TestLines, Assembly.assembled, Assembly.skeleton, Bodies.linked_body}
use Rattle.class_link.specs.Faults.{first_some, duplicate_fault, supertypes_fault, all_references_fault}
use Rattle.member_lookup.specs.Ancestors.{IsFirstCycle}
use Rattle.et_base.specs.Answers.{◌>>=◌}
use Rattle.class_link.specs.Link.{setting, unless, cycle_fault, tests_of, program_of, link_by, Links, AreLines, AreDifferent}
use Rattle.class_link.proofs.Assembled.{holds_builtins, class_count, method_cases}
use Rattle.class_link.proofs.{Records.class_numbers, Records.field_class, Records.method_class, Listed.AllKnown, Listed.is_listed, Distinct.is_distinct}
use Rattle.class_link.proofs.{Openings.has_openings, SkeletonFacts.ancestor_same, ClassKinds.class_kinds, SuiteTests.IsGood, SuiteTests.all_good}
use Rattle.class_link.proofs.{Found.static_owner, LinkedCode.names_body, LinkedCode.body_kind, LinkedCode.body_found, LinkedCode.body_is}

-- what is known of the code of each class file
abbrev pub AllCoded : List ClassParts → Type 0
AllCoded cs = (i k : ℕ) (c : ClassParts) (x : MemberPart) (code : CodePart) → slice_get cs i ≡ Some c → slice_get c.methods k ≡ Some x → x.code ≡ Some code → PartFacts c.pool code

-- a built-in method has no code
no_body : MethodRec → Bool
no_body m = is_none m.body

no_bodies : list_all no_body builtin_methods ≡ true
unfolding builtin_methods builtin_defs no_body
no_bodies = refl

none_holds : (Q : Body → Type 0) (o : Option Body) → is_none o ≡ true → IfSome o Q
none_holds Q None h = tt
none_holds Q (Some b) h = absurd (cc)

mapped_holds : (Q : Body → Type 0) (f : CodePart → Body) (o : Option CodePart) → ((code : CodePart) → o ≡ Some code → Q (f code)) → IfSome (option_map f o) Q
mapped_holds Q f None h = tt
mapped_holds Q f (Some code) h = h code refl

module _ (cs : List ClassParts) (ts : List TestEntry) (files : List (List ℕ × List ℕ)) where
  abbrev p : Program
  p = program_of cs ts files

  abbrev body : ClassParts → CodePart → Body
  body c code = linked_body (setting cs) c.pool code

  -- what holds of the body of each code of a class file holds of each body
  each_body : (Q : ℕ → Body → Type 0) → ((i k : ℕ) (c : ClassParts) (x : MemberPart) (code : CodePart) → slice_get cs i ≡ Some c → slice_get c.methods k ≡ Some x → x.code ≡ Some code → Q (builtin_count + i) (body c code)) →
      (m : ℕ) → IsMethod p m → IfSome (method_at p m).body (λ b. Q (method_at p m).class b)
  unfolding no_body
  each_body Q f m h = elim (method_cases body cs ts files m h) [
    | inl g ↦ none_holds (λ b. Q (method_at p m).class b) (method_at p m).body (method_keeps p (holds_builtins body cs ts files) no_body no_bodies m g)
    | inr g ↦
        subst (λ (r : MethodRec). IfSome r.body (λ y. Q r.class y)) (sym g.is)
        (mapped_holds (λ y. Q (builtin_count + g.class) y) (body g.parts) g.member.code (λ code e. f g.class g.index g.parts g.member code g.has_class g.has_member e))
  ]

  module _ (known : AllKnown cs) (coded : AllCoded cs) (different : duplicate_fault cs ≡ None) (headed : first_some (supertypes_fault (setting cs)) cs ≡ None) (acyclic : IsFirstCycle (skeleton cs) None)
      (resolved : all_references_fault (setting cs) builtin_count cs ≡ None) (lines : TestLines) (are : AreLines lines) (few : length cs ≤ 1024) (answer : tests_of (setting cs) lines.budget [] lines.tests ≡ Ok ts) (same_files : files ≡ lines.files) where
    owners : (c : ℕ) (name descriptor : List ℕ) (m : ℕ) → find_method p c name descriptor ≡ Some m → is_static (method_at p m).flags ≡ true → is_interface_at p (method_at p m).class ≡ true → is_interface_at p c ≡ true
    owners = static_owner p (holds_builtins body cs ts files) (class_kinds body cs ts files known headed) (is_listed body cs ts files known).own_methods

    good : All (IsGood body cs ts files lines.budget are.budget) ts × (length ts ≡ 0 + length lines.tests)
    good = all_good body cs ts files lines.budget are.budget [] lines.tests ts (All-nil (IsGood body cs ts files lines.budget are.budget)) are.names answer

    test_count : length ts ≤ 1024
    test_count = let n = good.1 in let b = are.few_tests in omega arith

    pub program_linked : Linked p
    unfolding assembled
    program_linked = record {
      builtins = holds_builtins body cs ts files;
      numbers = record {
        classes = class_numbers body cs ts files;
        fields = field_class body cs ts files;
        methods = method_class body cs ts files;
        bodies = each_body (λ c b. NamesBody p b) (λ i k c x code h g e. names_body cs ts files resolved owners i k c x code h g e (coded i k c x code h g e));
        tests = λ j d h. (let t = good.0 j d h in (t.0.given.1, t.1));
      };
      acyclic = λ c a. acyclic c (ancestor_same body cs ts files a);
      kinds = record {
        classes = class_kinds body cs ts files known headed;
        bodies = each_body (λ c b. IsBodyKind p c b) (λ i k c x code h g e. body_kind cs ts files resolved owners i k c x code h g e (coded i k c x code h g e));
      };
      distinct = is_distinct body cs ts files known different (subst (λ fs. AreDifferent fs ([], []) (λ x. x.0)) (sym same_files) are.files);
      listed = is_listed body cs ts files known;
      bodies = each_body (λ c b. IsBody b) (λ i k c x code h g e. body_is cs ts files resolved owners i k c x code h g e (coded i k c x code h g e));
      members = record { bodies = each_body (λ c b. All (λ y. IsFormFound p y.form) b.code) (λ i k c x code h g e. body_found cs ts files resolved owners i k c x code h g e (coded i k c x code h g e)) };
      openings = has_openings body cs ts files known;
      tests = λ j d h. (good.0 j d h).0;
      few_classes = let n = class_count body cs ts files in omega arith;
      few_tests = test_count;
    }

-- ---- from the answer

pub bound : {A B : Type 0} (r : Result A LinkFault) (f : A → Result B LinkFault) (y : B) → (r >>= f) ≡ Ok y → (x : A) × (r ≡ Ok x) × (f x ≡ Ok y)
bound (Ok x) f y e = (x, refl, e)
bound (Err z) f y e = absurd (cc)

pub unless_none : (o : Option LinkFault) (u : Unit {0}) → unless o ≡ Ok u → o ≡ None
unless_none None u e = refl
unless_none (Some f) u e = absurd (cc)

no_cycle : (cs : List ClassParts) (cycle : Option ℕ) → IsFirstCycle (skeleton cs) cycle → cycle_fault cs cycle ≡ None → IsFirstCycle (skeleton cs) None
no_cycle cs None h e = h
no_cycle cs (Some i) h e = absurd (cc)

pub known_from : (cs : List ClassParts) → All (λ c. grammar.IsClass c) cs → AllKnown cs
known_from cs h i c e = class_facts c (all_there (λ x. grammar.IsClass x) cs i c h e)

pub coded_from : (cs : List ClassParts) → AllKnown cs → AllCoded cs
coded_from cs known i k c x code h g e =
    let m : MethodFacts c.pool x = all_there (MethodFacts c.pool) c.methods k x (known i c h).methods.each g in
    subst (λ o. IfSome o (PartFacts c.pool)) e m.code

-- what linking finds on its way to a program
pub record Parts (cs : List ClassParts) (lines : TestLines) (cycle : Option ℕ) (p : Program) : Type 0 where
  pub different : duplicate_fault cs ≡ None
  pub headed : first_some (supertypes_fault (setting cs)) cs ≡ None
  pub acyclic : cycle_fault cs cycle ≡ None
  pub resolved : all_references_fault (setting cs) builtin_count cs ≡ None
  pub tests : List TestEntry
  pub tests_are : tests_of (setting cs) lines.budget [] lines.tests ≡ Ok tests
  pub is : program_of cs tests lines.files ≡ p

pub parts_by : (cs : List ClassParts) (lines : TestLines) (cycle : Option ℕ) (p : Program) → link_by cycle cs lines ≡ Ok p → Parts cs lines cycle p
unfolding link_by
parts_by cs lines cycle p e =
    let s = setting cs in
    let a = bound (unless (duplicate_fault cs)) _ p e in
    let b = bound (unless (first_some (supertypes_fault s) cs)) _ p a.2 in
    let c = bound (unless (cycle_fault cs cycle)) _ p b.2 in
    let d = bound (unless (all_references_fault s builtin_count cs)) _ p c.2 in
    let t = bound (tests_of s lines.budget [] lines.tests) (λ ts. Ok (program_of cs ts lines.files)) p d.2 in
    record {
      different = unless_none (duplicate_fault cs) a.0 a.1;
      headed = unless_none (first_some (supertypes_fault s) cs) b.0 b.1;
      acyclic = unless_none (cycle_fault cs cycle) c.0 c.1;
      resolved = unless_none (all_references_fault s builtin_count cs) d.0 d.1;
      tests = t.0;
      tests_are = t.1;
      is = (let z : ◌≡◌ {A = Result Program LinkFault} (Ok (program_of cs t.0 lines.files)) (Ok p) = t.2 in cc);
    }

-- What linking answers is a linked program, where the first cycle is known at least if names differ and supertypes have no fault.
linked_by : (cs : List ClassParts) (lines : TestLines) (cycle : Option ℕ) (p : Program) → length cs ≤ 1024 → All (λ c. grammar.IsClass c) cs → AreLines lines
    → (duplicate_fault cs ≡ None → first_some (supertypes_fault (setting cs)) cs ≡ None → IsFirstCycle (skeleton cs) cycle) → link_by cycle cs lines ≡ Ok p → Linked p
linked_by cs lines cycle p few classes are first e =
    let known = known_from cs classes in
    let l = parts_by cs lines cycle p e in
    let acyclic = no_cycle cs cycle (first l.different l.headed) l.acyclic in
    subst Linked l.is (program_linked cs l.tests lines.files known (coded_from cs known) l.different l.headed acyclic l.resolved lines are few l.tests_are refl)

-- what linking says of an answer makes its program a linked one
pub links_linked : (cs : List ClassParts) (lines : TestLines) (answer : Result Program LinkFault) → length cs ≤ 1024 → All (λ c. grammar.IsClass c) cs → AreLines lines → Links cs lines answer → IfOk answer Linked
links_linked cs lines (Ok q) few classes are (cycle, (first, e)) = linked_by cs lines cycle q few classes are first (sym e)
links_linked cs lines (Err f) few classes are l = tt
