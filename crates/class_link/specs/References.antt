-- What the entries of a pool stand for, and how code uses them (JVMS 5.4.3 and 6.5).
use Rattle.std.specs.Prelude.{ℕ, List, [], ◌∷◌, ◌++◌, flat_map, option_map, Option, Some, None, cond, nat_eq}
use Rattle.class_pool.specs.{declared.pool.Entry.Entry, Pool.entry_of}
use Rattle.class_pool.specs.declared.pool.Entry.TheVariants as entry
use Rattle.code_decode.specs.declared.instructions.RawOp.{RawOp}
use Rattle.class_reader.specs.declared.parts.{ClassParts.ClassParts, CodePart.CodePart, RawHandler.RawHandler}
use Rattle.jvm_model.specs.declared.values.{Kind.Kind, Value.TheVariants.Int, Value.TheVariants.Long, Value.TheVariants.Lit}
use Rattle.jvm_model.specs.{Selection.named_class, Lookup.find_field, Lookup.find_method, Lookup.lacks_method}
use Rattle.code_forms.specs.{declared.references.Use.Use, declared.references.Target.Target, Operands.index_in, Uses.use_of}
use Rattle.code_forms.specs.declared.references.Use.TheVariants as used
use Rattle.code_forms.specs.declared.references.Target.TheVariants as target
pub use Rattle.class_link.specs.declared.link_environment.LinkEnvironment.{LinkEnvironment}
use Rattle.class_link.specs.{ClassNames.text_at, ClassNames.name_at, ClassNames.missing, ClassNames.kind_of, Literals.literal_number}

-- ---- what an entry stands for

-- the name and descriptor of a NameAndType entry
abbrev pub pair_of : List (Option Entry) → Option Entry → List ℕ × List ℕ
pair_of slots (Some (entry.NameAndType name descriptor)) = (text_at slots name, text_at slots descriptor)
pair_of slots _ = ([], [])

-- the field that a Fieldref names, looked up from its class; an array has those of Object, which are none
abbrev pub field_target : LinkEnvironment → Option Kind → List ℕ × List ℕ → Option Target
field_target s None pair = None
field_target s (Some k) pair = option_map (λ f. target.Field (named_class k) f) (find_field s.program (named_class k) pair.0 pair.1)

abbrev pub method_target : LinkEnvironment → Option Kind → List ℕ × List ℕ → Option Target
method_target s None pair = None
method_target s (Some k) pair = cond (lacks_method k pair.0) None (option_map (λ m. target.Method k m) (find_method s.program (named_class k) pair.0 pair.1))

-- the class or array type that a Class entry names
abbrev pub type_target : List (List ℕ) → List ℕ → Option Target
type_target names name = option_map (λ k. target.Type k) (kind_of names name)

-- what an entry stands for; none where its class or member isn't there, and for entries that code can't use
unfoldable pub target_of : LinkEnvironment → List (Option Entry) → Option Entry → Option Target
target_of s slots (Some (entry.Integer n)) = Some (target.Constant (Int n))
target_of s slots (Some (entry.Long n)) = Some (target.Constant (Long n))
target_of s slots (Some (entry.Str text)) = Some (target.Constant (Lit (literal_number s.texts (text_at slots text))))
target_of s slots (Some (entry.Class name)) = type_target s.names (text_at slots name)
target_of s slots (Some (entry.Field class pair)) = field_target s (kind_of s.names (name_at slots class)) (pair_of slots (entry_of slots pair))
target_of s slots (Some (entry.Method class pair)) = method_target s (kind_of s.names (name_at slots class)) (pair_of slots (entry_of slots pair))
target_of s slots (Some (entry.InterfaceMethod class pair)) = method_target s (kind_of s.names (name_at slots class)) (pair_of slots (entry_of slots pair))
target_of s slots _ = None

-- the class that an entry needs and that isn't there
unfoldable pub missing_for : List (List ℕ) → List (Option Entry) → Option Entry → Option (List ℕ)
missing_for names slots (Some (entry.Class name)) = missing names (text_at slots name)
missing_for names slots (Some (entry.Field class pair)) = missing names (name_at slots class)
missing_for names slots (Some (entry.Method class pair)) = missing names (name_at slots class)
missing_for names slots (Some (entry.InterfaceMethod class pair)) = missing names (name_at slots class)
missing_for names slots _ = None

-- ---- how entries are used

abbrev pub op_use : RawOp → List (ℕ × Use)
op_use o = elim (use_of o.opcode) [ None ↦ [] | Some u ↦ (index_in o, u) ∷ [] ]

-- a handler that catches everything names no class
abbrev pub handler_use : RawHandler → List (ℕ × Use)
handler_use h = cond (nat_eq h.catch_class 0) [] ((h.catch_class, used.Caught) ∷ [])

abbrev pub code_uses : Option CodePart → List (ℕ × Use)
code_uses None = []
code_uses (Some code) = flat_map op_use code.code.ops ++ flat_map handler_use code.handlers

-- all uses of pool entries by the code and the handlers of a class
unfoldable pub uses : ClassParts → List (ℕ × Use)
uses c = flat_map (λ m. code_uses m.code) c.methods
