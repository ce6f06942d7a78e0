-- What holds of what is read of attributes, and of indices.
use Rattle.std.proofs.Common.{◌≡◌, ◌<◌, ◌^◌, ℕ, Bool, true, List, Option, None, sym, ap, subst, ◌∙◌}
use Rattle.std.specs.Prelude.{IfSome}
use Rattle.class_pool.specs.{declared.pool.Entry.Entry, Pool.entry_of}
use Rattle.class_pool.proofs.{Laws.chosen, GrammarFacts.chain_keeps}
use Rattle.class_reader.specs.{Indices.Index, Indices.Form, ClassGrammar.OnceText, ClassGrammar.AttributeText, ClassGrammar.AttributesText}

-- ---- attributes

once_keeps : {A : Type 0} (wanted : Bool) (S : List ℕ → A → Type 0) (P : A → Type 0) → ((text : List ℕ) (x : A) → S text x → P x)
    → (found : Option A) (text : List ℕ) (now : Option A) → IfSome found P → OnceText wanted S found text now → IfSome now P
once_keeps wanted S P f found text now h s = chosen wanted _ _ s
    (λ _ (none, (x, t, is)). subst (λ o. IfSome o P) (sym is) (f text x t))
    (λ _ (u, t, is). subst (λ o. IfSome o P) (sym is) h)

-- what is read of the attributes of a place is so
pub attributes_keep : {A : Type 0} (wanted : Option Entry → Bool) (S : List ℕ → A → Type 0) (slots : List (Option Entry)) (P : A → Type 0) → ((text : List ℕ) (x : A) → S text x → P x)
    → (text : List ℕ) (now : Option A) → AttributesText wanted S slots text now → IfSome now P
attributes_keep wanted S slots P f text now (n, one, more, e, short, chain) =
    chain_keeps (AttributeText wanted S slots) (λ o. IfSome o P) (λ found bytes next h (name, front, rest, joined, index, once). once_keeps (wanted (entry_of slots name)) S P f found rest next h once) None n more now tt chain

-- ---- indices

pub index_facts : (fits : Option Entry → Bool) (slots : List (Option Entry)) (text : List ℕ) (i : ℕ) → Index fits slots text i → (i < 2 ^ 16) × (fits (entry_of slots i) ≡ true)
index_facts fits slots text i (k, one, more, e, short, (right, (nil, is))) = (subst (λ n. n < 2 ^ 16) (sym is) short.1, ap (λ n. fits (entry_of slots n)) is ∙ right)

pub form_facts : (form : Option Entry → Bool) (slots : List (Option Entry)) (text : List ℕ) (i : ℕ) → Form form slots text i → form (entry_of slots i) ≡ true
form_facts form slots text i (k, one, more, e, index, (right, (nil, is))) = ap (λ n. form (entry_of slots n)) is ∙ right
