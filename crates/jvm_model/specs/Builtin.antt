-- The numbers of the built-in classes and fields that the machine itself names: they stand first in every program.
use Rattle.std.specs.Prelude.{ℕ}

abbrev pub object_class : ℕ
object_class = 0

abbrev pub string_class : ℕ
string_class = 1

abbrev pub builder_class : ℕ
builder_class = 2

abbrev pub system_class : ℕ
system_class = 3

abbrev pub stream_class : ℕ
stream_class = 4

abbrev pub env_class : ℕ
env_class = 6

abbrev pub throwable_class : ℕ
throwable_class = 7

abbrev pub error_class : ℕ
error_class = 8

abbrev pub assertion_error : ℕ
assertion_error = 10

abbrev pub initializer_error : ℕ
initializer_error = 13

abbrev pub no_class_error : ℕ
no_class_error = 14

abbrev pub class_change_error : ℕ
class_change_error = 15

abbrev pub abstract_method_error : ℕ
abstract_method_error = 16

abbrev pub instantiation_error : ℕ
instantiation_error = 17

abbrev pub stack_overflow_error : ℕ
stack_overflow_error = 18

abbrev pub arithmetic_exception : ℕ
arithmetic_exception = 20

abbrev pub array_store_exception : ℕ
array_store_exception = 21

abbrev pub class_cast_exception : ℕ
class_cast_exception = 22

abbrev pub negative_size_exception : ℕ
negative_size_exception = 23

abbrev pub null_pointer_exception : ℕ
null_pointer_exception = 24

abbrev pub array_index_exception : ℕ
array_index_exception = 29

abbrev pub string_index_exception : ℕ
string_index_exception = 30

-- how many built-in classes there are; a given class J of the suite has the number 31 + J
abbrev pub builtin_count : ℕ
builtin_count = 32

-- java.lang.System.out
abbrev pub out_field : ℕ
out_field = 0

-- java.lang.Throwable.message
abbrev pub message_field : ℕ
message_field = 1
