-- The first units of fields' descriptors, and what values are narrowed to by them.
use Rattle.std.proofs.Common.{◌≡◌, ℕ, ◌<◌, ◌≤◌, List, [], ◌∷◌, length, get_or, refl, ◌∙◌, ap, subst}
use Rattle.std.proofs.lemmas.List.{get_or_past}
use Rattle.jvm_model.specs.declared.{values.Value.Value, program.Program.Program}
use Rattle.jvm_model.specs.declared.values.Value.TheVariants.{Int, Long, Null, Lit, Obj}
use Rattle.jvm_model.specs.{Classes.field_at, Classes.no_field, Linked.first_or, Narrow.narrow, Narrow.narrowed}
use Rattle.vm_tables.specs.FieldUnits.{AreUnits, field_unit}
use Rattle.vm_tables.proofs.Started.{table_all}

unit_past : (p : Program) (f : ℕ) → length p.fields ≤ f → field_unit p f ≡ 0
unit_past p f h = let past : field_at p f ≡ no_field = get_or_past p.fields f no_field h in rw past (refl {a = 0})

pub units_all : (p : Program) (n : ℕ) → length p.fields ≤ n → (units : List ℕ) → length units ≡ n → ((f : ℕ) → f < n → get_or units f 0 ≡ field_unit p f) → AreUnits p units
units_all p n k units l g = table_all (λ x. x) (field_unit p) 0 units (length p.fields) n l k g (λ f h. unit_past p f h)

pub unit_found : (p q : Program) (f : ℕ) (units : List ℕ) → AreUnits p units → p ≡ q → get_or units f 0 ≡ field_unit q f
unit_found p q f units h e = subst (λ (w : Program). get_or units f 0 ≡ field_unit w f) e (h f)

-- a value is narrowed by a descriptor as by the descriptor's first unit
pub narrow_first : (d : List ℕ) (v : Value) → narrow (first_or 0 d) v ≡ narrowed d v
unfolding narrow
narrow_first [] (Int n) = refl
narrow_first [] (Long n) = refl
narrow_first [] Null = refl
narrow_first [] (Lit n) = refl
narrow_first [] (Obj o) = refl
narrow_first (u ∷ us) v = refl

-- a value that a field gets
pub field_narrowed : (p q : Program) (f u : ℕ) (v : Value) → q ≡ p → u ≡ field_unit q f → narrow u v ≡ narrowed (field_at p f).descriptor v
field_narrowed p q f u v e h =
    let unit : u ≡ field_unit p f = h ∙ ap (λ w. field_unit w f) e in
    ap (λ n. narrow n v) unit ∙ narrow_first (field_at p f).descriptor v
