-- Linking has exactly one answer.
use Rattle.std.proofs.Common.{◌≡◌, ℕ, List, [], length, Option, Some, None, Result, Ok, Err, refl, sym, ◌∙◌, ap, subst, inl, inr, IfSome}
use Rattle.std.proofs.lemmas.Bool.{cases_lt}
use Rattle.class_reader.specs.declared.parts.ClassParts.{ClassParts}
use Rattle.jvm_model.specs.{declared.program.Program.Program, Builtin.builtin_count, Classes.class_at, Linked.IsClass}
use Rattle.member_lookup.specs.Ancestors.{IsFirstCycle}
use Rattle.member_lookup.proofs.Ancestry.{is_direct, nothing_above, place_of}
use Rattle.member_lookup.proofs.FirstCycle.{AreThere, cycle_found, cycle_once}
use Rattle.class_link.specs.{declared.fault.LinkFault.LinkFault, declared.lines.TestLines.TestLines, Assembly.skeleton, Assembly.bare_body}
use Rattle.class_link.specs.declared.fault.LinkFault.TheVariants as fault
use Rattle.class_link.specs.Faults.{first_some, duplicate_fault, supertypes_fault, all_references_fault}
use Rattle.et_base.specs.Answers.{◌>>=◌}
use Rattle.class_link.specs.Link.{setting, unless, cycle_fault, tests_of, program_of, link_by, LinksBy, Links, LinksOnce}
use Rattle.class_link.proofs.{Assembled.holds_builtins, Records.class_numbers}

-- ---- the first cycle is there

there : (cs : List ClassParts) → AreThere (skeleton cs)
there cs c d m = let p = skeleton cs in elim (cases_lt c (length p.classes)) [
  | inl h ↦
      let n = class_numbers (λ _ code. bare_body code) cs [] [] c h in
      elim (is_direct p c d m) [
        | inl e ↦ subst (λ o. IfSome o (λ x. IsClass p x)) e n.superclass
        | inr q ↦ let r = place_of (class_at p c).interfaces d q in subst (λ x. IsClass p x) r.2 (n.interfaces r.0 0 r.1)
      ]
  | inr h ↦ absurd (nothing_above p c d h m)
]

-- ---- the answer is the same by each way to know it

same_after : {B : Type 0} (o : Option LinkFault) (f g : Unit {0} → Result B LinkFault) → (o ≡ None → f tt ≡ g tt) → (unless o >>= f) ≡ (unless o >>= g)
same_after None f g h = h refl
same_after (Some x) f g h = refl

-- what follows where names differ and supertypes have no fault
abbrev after : List ClassParts → TestLines → Option ℕ → Result Program LinkFault
after cs lines cycle = do
  acyclic ← unless (cycle_fault cs cycle)
  resolved ← unless (all_references_fault (setting cs) builtin_count cs)
  tests ← tests_of (setting cs) lines.budget [] lines.tests
  Ok (program_of cs tests lines.files)

link_same : (cs : List ClassParts) (lines : TestLines) (a b : Option ℕ) → (duplicate_fault cs ≡ None → first_some (supertypes_fault (setting cs)) cs ≡ None → a ≡ b) → link_by a cs lines ≡ link_by b cs lines
unfolding link_by
link_same cs lines a b h = same_after (duplicate_fault cs) _ _ (λ d. same_after (first_some (supertypes_fault (setting cs)) cs) _ _ (λ e. ap (after cs lines) (h d e)))

said : (cs : List ClassParts) (lines : TestLines) (answer : Result Program LinkFault) → (answer ≡ Err fault.NoMemory → ⊥) → Links cs lines answer → (cycle : Option ℕ) × LinksBy cycle cs lines answer
said cs lines (Ok p) m l = l
said cs lines (Err fault.NoMemory) m l = absurd (m refl)
said cs lines (Err _) m l = l

-- what links in two ways is one answer
pub links_by_once : (cs : List ClassParts) (lines : TestLines) (a b : Option ℕ) (x y : Result Program LinkFault) → LinksBy a cs lines x → LinksBy b cs lines y → x ≡ y
links_by_once cs lines a b x y (p, e) (q, f) = e ∙ link_same cs lines a b (λ d h. cycle_once (skeleton cs) a b (p d h) (q d h)) ∙ sym f

same_answer : (cs : List ClassParts) (lines : TestLines) (cycle : Option ℕ) (answer : Result Program LinkFault) → IsFirstCycle (skeleton cs) cycle → ((other : Option ℕ) × LinksBy other cs lines answer) → answer ≡ link_by cycle cs lines
same_answer cs lines cycle answer first (other, by) = links_by_once cs lines other cycle answer (link_by cycle cs lines) by ((λ _ _. first), refl)

pub links_once : LinksOnce
links_once cs lines =
    let found = cycle_found (skeleton cs) (holds_builtins (λ _ code. bare_body code) cs [] []).classes (there cs) in
    (link_by found.0 cs lines, found.0, ((λ _ _. found.1), refl), λ other m l. same_answer cs lines found.0 other found.1 (said cs lines other m l))
