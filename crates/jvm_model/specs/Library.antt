-- The built-in classes: what they are named, which fields and methods they have, and their records in a program.
use Rattle.std.specs.Prelude.{ℕ, List, [], ◌∷◌, ◌++◌, length, ◌+◌, codes, map, Option, Some, None, true, false}
use Rattle.std.specs.{List.range_with_len, Str.bytes_eq}
use Rattle.jvm_model.specs.declared.values.Value.TheVariants.{Null, Lit}
use Rattle.jvm_model.specs.declared.library.{ClassDef.ClassDef, FieldDef.FieldDef, MethodDef.MethodDef, Native.Native}
use Rattle.jvm_model.specs.declared.library.Native.TheVariants as native
use Rattle.jvm_model.specs.declared.program.{ClassRec.ClassRec, FieldRec.FieldRec, MethodRec.MethodRec}

-- a method of an instance, and a static one
abbrev pub plain : List ℕ → List ℕ → Native → MethodDef
plain name descriptor x = record { name = name; descriptor = descriptor; flags = 0; native = x }

abbrev pub fixed : List ℕ → List ℕ → Native → MethodDef
fixed name descriptor x = record { name = name; descriptor = descriptor; flags = 0x0008; native = x }

abbrev pub builtin : List ℕ → Option (List ℕ) → List FieldDef → List MethodDef → ClassDef
builtin name above fs ms = record { name = name; flags = 0; superclass = above; interfaces = []; fields = fs; methods = ms }

abbrev pub below_object : List ℕ → List FieldDef → List MethodDef → ClassDef
below_object name fs ms = builtin name (Some (codes "java/lang/Object")) fs ms

-- the two constructors of a throwable
abbrev pub throwable_inits : List MethodDef
throwable_inits = plain (codes "<init>") (codes "()V") native.ThrowableInit
    ∷ plain (codes "<init>") (codes "(Ljava/lang/String;)V") native.ThrowableInitString ∷ []

abbrev pub throwable : List ℕ → List ℕ → ClassDef
throwable name above = builtin name (Some above) [] throwable_inits

abbrev pub object_def : ClassDef
object_def = builtin (codes "java/lang/Object") None []
    (plain (codes "<init>") (codes "()V") native.ObjectInit
    ∷ plain (codes "equals") (codes "(Ljava/lang/Object;)Z") native.ObjectEquals
    ∷ plain (codes "hashCode") (codes "()I") native.ObjectHashCode ∷ [])

abbrev pub string_def : ClassDef
string_def = below_object (codes "java/lang/String") []
    (plain (codes "length") (codes "()I") native.StringLength
    ∷ plain (codes "isEmpty") (codes "()Z") native.StringIsEmpty
    ∷ plain (codes "charAt") (codes "(I)C") native.StringCharAt
    ∷ plain (codes "equals") (codes "(Ljava/lang/Object;)Z") native.StringEquals
    ∷ plain (codes "hashCode") (codes "()I") native.StringHashCode
    ∷ plain (codes "substring") (codes "(I)Ljava/lang/String;") native.StringSubstringFrom
    ∷ plain (codes "substring") (codes "(II)Ljava/lang/String;") native.StringSubstring
    ∷ plain (codes "concat") (codes "(Ljava/lang/String;)Ljava/lang/String;") native.StringConcat
    ∷ plain (codes "toString") (codes "()Ljava/lang/String;") native.StringToString
    ∷ fixed (codes "valueOf") (codes "(I)Ljava/lang/String;") native.StringOfInt
    ∷ fixed (codes "valueOf") (codes "(J)Ljava/lang/String;") native.StringOfLong
    ∷ fixed (codes "valueOf") (codes "(Z)Ljava/lang/String;") native.StringOfBoolean
    ∷ fixed (codes "valueOf") (codes "(C)Ljava/lang/String;") native.StringOfChar ∷ [])

abbrev pub builder_def : ClassDef
builder_def = below_object (codes "java/lang/StringBuilder") []
    (plain (codes "<init>") (codes "()V") native.BuilderInit
    ∷ plain (codes "<init>") (codes "(Ljava/lang/String;)V") native.BuilderInitString
    ∷ plain (codes "append") (codes "(Ljava/lang/String;)Ljava/lang/StringBuilder;") native.BuilderAppendString
    ∷ plain (codes "append") (codes "(I)Ljava/lang/StringBuilder;") native.BuilderAppendInt
    ∷ plain (codes "append") (codes "(J)Ljava/lang/StringBuilder;") native.BuilderAppendLong
    ∷ plain (codes "append") (codes "(Z)Ljava/lang/StringBuilder;") native.BuilderAppendBoolean
    ∷ plain (codes "append") (codes "(C)Ljava/lang/StringBuilder;") native.BuilderAppendChar
    ∷ plain (codes "length") (codes "()I") native.BuilderLength
    ∷ plain (codes "toString") (codes "()Ljava/lang/String;") native.BuilderToString ∷ [])

abbrev pub system_def : ClassDef
system_def = below_object (codes "java/lang/System")
    (record { name = codes "out"; descriptor = codes "Ljava/io/PrintStream;"; flags = 0x0008; opening = Lit 0 } ∷ [])
    (fixed (codes "currentTimeMillis") (codes "()J") native.SystemClock
    ∷ fixed (codes "getProperty") (codes "(Ljava/lang/String;)Ljava/lang/String;") native.SystemGetProperty
    ∷ fixed (codes "setProperty") (codes "(Ljava/lang/String;Ljava/lang/String;)Ljava/lang/String;") native.SystemSetProperty
    ∷ fixed (codes "clearProperty") (codes "(Ljava/lang/String;)Ljava/lang/String;") native.SystemClearProperty ∷ [])

abbrev pub stream_def : ClassDef
stream_def = below_object (codes "java/io/PrintStream") []
    (plain (codes "print") (codes "(Ljava/lang/String;)V") native.PrintString
    ∷ plain (codes "print") (codes "(I)V") native.PrintInt
    ∷ plain (codes "print") (codes "(J)V") native.PrintLong
    ∷ plain (codes "print") (codes "(Z)V") native.PrintBoolean
    ∷ plain (codes "print") (codes "(C)V") native.PrintChar
    ∷ plain (codes "println") (codes "(Ljava/lang/String;)V") native.PrintlnString
    ∷ plain (codes "println") (codes "(I)V") native.PrintlnInt
    ∷ plain (codes "println") (codes "(J)V") native.PrintlnLong
    ∷ plain (codes "println") (codes "(Z)V") native.PrintlnBoolean
    ∷ plain (codes "println") (codes "(C)V") native.PrintlnChar
    ∷ plain (codes "println") (codes "()V") native.Println ∷ [])

abbrev pub files_def : ClassDef
files_def = below_object (codes "electric/Files") []
    (fixed (codes "read") (codes "(Ljava/lang/String;)Ljava/lang/String;") native.FilesRead
    ∷ fixed (codes "write") (codes "(Ljava/lang/String;Ljava/lang/String;)V") native.FilesWrite
    ∷ fixed (codes "append") (codes "(Ljava/lang/String;Ljava/lang/String;)V") native.FilesAppend
    ∷ fixed (codes "delete") (codes "(Ljava/lang/String;)Z") native.FilesDelete
    ∷ fixed (codes "exists") (codes "(Ljava/lang/String;)Z") native.FilesExists ∷ [])

abbrev pub env_def : ClassDef
env_def = below_object (codes "electric/Env") []
    (fixed (codes "print") (codes "(I)V") native.EnvPrint
    ∷ fixed (codes "random") (codes "()I") native.EnvRandom ∷ [])

abbrev pub throwable_def : ClassDef
throwable_def = below_object (codes "java/lang/Throwable")
    (record { name = codes "message"; descriptor = codes "Ljava/lang/String;"; flags = 0x0002; opening = Null } ∷ [])
    (throwable_inits ++ (plain (codes "getMessage") (codes "()Ljava/lang/String;") native.ThrowableGetMessage ∷ []))

abbrev pub assertion_def : ClassDef
assertion_def = builtin (codes "java/lang/AssertionError") (Some (codes "java/lang/Error")) []
    (plain (codes "<init>") (codes "()V") native.ThrowableInit
    ∷ plain (codes "<init>") (codes "(Ljava/lang/Object;)V") native.AssertionInitObject
    ∷ plain (codes "<init>") (codes "(I)V") native.AssertionInitInt
    ∷ plain (codes "<init>") (codes "(J)V") native.AssertionInitLong
    ∷ plain (codes "<init>") (codes "(Z)V") native.AssertionInitBoolean
    ∷ plain (codes "<init>") (codes "(C)V") native.AssertionInitChar ∷ [])

-- The built-in classes in the order of their numbers.
unfoldable pub builtin_defs : List ClassDef
builtin_defs = object_def ∷ string_def ∷ builder_def ∷ system_def ∷ stream_def ∷ files_def ∷ env_def ∷ throwable_def
    ∷ throwable (codes "java/lang/Error") (codes "java/lang/Throwable")
    ∷ throwable (codes "java/lang/Exception") (codes "java/lang/Throwable")
    ∷ assertion_def
    ∷ throwable (codes "java/lang/LinkageError") (codes "java/lang/Error")
    ∷ record (throwable (codes "java/lang/VirtualMachineError") (codes "java/lang/Error")) { flags = 0x0400 }
    ∷ throwable (codes "java/lang/ExceptionInInitializerError") (codes "java/lang/LinkageError")
    ∷ throwable (codes "java/lang/NoClassDefFoundError") (codes "java/lang/LinkageError")
    ∷ throwable (codes "java/lang/IncompatibleClassChangeError") (codes "java/lang/LinkageError")
    ∷ throwable (codes "java/lang/AbstractMethodError") (codes "java/lang/IncompatibleClassChangeError")
    ∷ throwable (codes "java/lang/InstantiationError") (codes "java/lang/IncompatibleClassChangeError")
    ∷ throwable (codes "java/lang/StackOverflowError") (codes "java/lang/VirtualMachineError")
    ∷ throwable (codes "java/lang/RuntimeException") (codes "java/lang/Exception")
    ∷ throwable (codes "java/lang/ArithmeticException") (codes "java/lang/RuntimeException")
    ∷ throwable (codes "java/lang/ArrayStoreException") (codes "java/lang/RuntimeException")
    ∷ throwable (codes "java/lang/ClassCastException") (codes "java/lang/RuntimeException")
    ∷ throwable (codes "java/lang/NegativeArraySizeException") (codes "java/lang/RuntimeException")
    ∷ throwable (codes "java/lang/NullPointerException") (codes "java/lang/RuntimeException")
    ∷ throwable (codes "java/lang/IndexOutOfBoundsException") (codes "java/lang/RuntimeException")
    ∷ throwable (codes "java/lang/IllegalArgumentException") (codes "java/lang/RuntimeException")
    ∷ throwable (codes "java/lang/IllegalStateException") (codes "java/lang/RuntimeException")
    ∷ throwable (codes "java/lang/UnsupportedOperationException") (codes "java/lang/RuntimeException")
    ∷ throwable (codes "java/lang/ArrayIndexOutOfBoundsException") (codes "java/lang/IndexOutOfBoundsException")
    ∷ throwable (codes "java/lang/StringIndexOutOfBoundsException") (codes "java/lang/IndexOutOfBoundsException")
    ∷ throwable (codes "java/lang/NumberFormatException") (codes "java/lang/IllegalArgumentException")
    ∷ []

-- the number of a class among definitions, from the number n on
abbrev pub number_in : ℕ → List ClassDef → List ℕ → Option ℕ
number_in n [] name = None
number_in n (d ∷ ds) name = elim (bytes_eq d.name name) [ true ↦ Some n | false ↦ number_in (n + 1) ds name ]

abbrev pub superclass_in : List ClassDef → Option (List ℕ) → Option ℕ
superclass_in ds None = None
superclass_in ds (Some name) = number_in 0 ds name

-- the records of built-in classes: fields and methods are numbered as they stand, from f and m on
abbrev pub class_recs : List ClassDef → ℕ → ℕ → List ClassDef → List ClassRec
class_recs all f m [] = []
class_recs all f m (d ∷ ds) = record {
  name = d.name;
  version = 52;
  flags = d.flags;
  superclass = superclass_in all d.superclass;
  interfaces = [];
  fields = range_with_len f (length d.fields);
  methods = range_with_len m (length d.methods);
  initialiser = None;
  mentions = [];
} ∷ class_recs all (f + length d.fields) (m + length d.methods) ds

abbrev pub field_rec : ℕ → FieldDef → FieldRec
field_rec c x = record { class = c; name = x.name; descriptor = x.descriptor; flags = x.flags; opening = x.opening }

abbrev pub method_rec : ℕ → MethodDef → MethodRec
method_rec c x = record { class = c; name = x.name; descriptor = x.descriptor; flags = x.flags; native = Some x.native; body = None }

abbrev pub field_recs : ℕ → List ClassDef → List FieldRec
field_recs c [] = []
field_recs c (d ∷ ds) = map (λ x. field_rec c x) d.fields ++ field_recs (c + 1) ds

abbrev pub method_recs : ℕ → List ClassDef → List MethodRec
method_recs c [] = []
method_recs c (d ∷ ds) = map (λ x. method_rec c x) d.methods ++ method_recs (c + 1) ds

-- with these every program begins
unfoldable pub builtin_classes : List ClassRec
builtin_classes = class_recs builtin_defs 0 0 builtin_defs

unfoldable pub builtin_fields : List FieldRec
builtin_fields = field_recs 0 builtin_defs

unfoldable pub builtin_methods : List MethodRec
builtin_methods = method_recs 0 builtin_defs
