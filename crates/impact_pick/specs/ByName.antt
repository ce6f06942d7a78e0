-- The matching of two programs by names, of chosen classes (this project's).
use Rattle.std.specs.Prelude.{ℕ, length, Bool, ◌&&◌, ◌||◌, nat_eq, nat_lt, nat_le}
use Rattle.std.specs.Str.{bytes_eq}
use Rattle.jvm_model.specs.declared.program.{Program.Program, FieldRec.FieldRec, MethodRec.MethodRec}
use Rattle.jvm_model.specs.{Builtin.builtin_count, Classes.field_at, Classes.method_at, Classes.literal_at}
use Rattle.order_law.specs.Numbers.{Numbers}

-- a built-in class or a chosen one, with the class of the same number: given classes stand in the suite's order in both
abbrev pub same_class : (ℕ → Bool) → ℕ → ℕ → Bool
same_class keeps c d = nat_eq c d && (nat_lt c builtin_count || keeps c)

-- fields of such a class with one name and descriptor
abbrev pub same_field : (ℕ → Bool) → FieldRec → FieldRec → Bool
same_field keeps x y = same_class keeps x.class y.class && (bytes_eq x.name y.name && bytes_eq x.descriptor y.descriptor)

abbrev pub same_method : (ℕ → Bool) → MethodRec → MethodRec → Bool
same_method keeps x y = same_class keeps x.class y.class && (bytes_eq x.name y.name && bytes_eq x.descriptor y.descriptor)

-- the stream with itself, and string constants of one text
abbrev pub same_literal : Program → Program → ℕ → ℕ → Bool
same_literal p q a b = (nat_eq a 0 && nat_eq b 0) || ((nat_lt 0 a && nat_lt 0 b) && ((nat_le a (length p.literals) && nat_le b (length q.literals)) && bytes_eq (literal_at p a) (literal_at q b)))

unfoldable pub by_name : (ℕ → Bool) → Program → Program → Numbers
by_name keeps p q = record {
  fields = λ f g. (nat_lt f (length p.fields) && nat_lt g (length q.fields)) && same_field keeps (field_at p f) (field_at q g);
  class = same_class keeps;
  method = λ a b. (nat_lt a (length p.methods) && nat_lt b (length q.methods)) && same_method keeps (method_at p a) (method_at q b);
  literal = same_literal p q;
}
