-- The built-in methods by group: each runs in the step that calls it.
use Rattle.jvm_model.specs.{declared.library.Native.Native, declared.program.Program.Program, Access.Access, Rows.Answer, Working.Working}
use Rattle.jvm_model.specs.declared.library.Native.TheVariants as native
use Rattle.jvm_model.specs.{NativesObject.native_object, NativesObject.native_throwable, NativesString.native_string, NativesString.native_builder}
use Rattle.jvm_model.specs.NativesOutside.{native_system, native_print, native_files, native_env}

pub data NativeGroup : Type 0 where
  of_object of_string of_builder of_system of_stream of_files of_env of_throwable : NativeGroup

abbrev pub native_group : Native → NativeGroup
native_group native.ObjectInit = of_object
native_group native.ObjectEquals = of_object
native_group native.ObjectHashCode = of_object
native_group native.StringLength = of_string
native_group native.StringIsEmpty = of_string
native_group native.StringCharAt = of_string
native_group native.StringEquals = of_string
native_group native.StringHashCode = of_string
native_group native.StringSubstringFrom = of_string
native_group native.StringSubstring = of_string
native_group native.StringConcat = of_string
native_group native.StringToString = of_string
native_group native.StringOfInt = of_string
native_group native.StringOfLong = of_string
native_group native.StringOfBoolean = of_string
native_group native.StringOfChar = of_string
native_group native.BuilderInit = of_builder
native_group native.BuilderInitString = of_builder
native_group native.BuilderAppendString = of_builder
native_group native.BuilderAppendInt = of_builder
native_group native.BuilderAppendLong = of_builder
native_group native.BuilderAppendBoolean = of_builder
native_group native.BuilderAppendChar = of_builder
native_group native.BuilderLength = of_builder
native_group native.BuilderToString = of_builder
native_group native.SystemClock = of_system
native_group native.SystemGetProperty = of_system
native_group native.SystemSetProperty = of_system
native_group native.SystemClearProperty = of_system
native_group native.PrintString = of_stream
native_group native.PrintInt = of_stream
native_group native.PrintLong = of_stream
native_group native.PrintBoolean = of_stream
native_group native.PrintChar = of_stream
native_group native.PrintlnString = of_stream
native_group native.PrintlnInt = of_stream
native_group native.PrintlnLong = of_stream
native_group native.PrintlnBoolean = of_stream
native_group native.PrintlnChar = of_stream
native_group native.Println = of_stream
native_group native.FilesRead = of_files
native_group native.FilesWrite = of_files
native_group native.FilesAppend = of_files
native_group native.FilesDelete = of_files
native_group native.FilesExists = of_files
native_group native.EnvPrint = of_env
native_group native.EnvRandom = of_env
native_group native.ThrowableInit = of_throwable
native_group native.ThrowableInitString = of_throwable
native_group native.ThrowableGetMessage = of_throwable
native_group native.AssertionInitObject = of_throwable
native_group native.AssertionInitInt = of_throwable
native_group native.AssertionInitLong = of_throwable
native_group native.AssertionInitBoolean = of_throwable
native_group native.AssertionInitChar = of_throwable

abbrev pub native_of_group : NativeGroup → Program → Native → Working → Access (Answer Working)
native_of_group of_object p x s = native_object p x s
native_of_group of_string p x s = native_string p x s
native_of_group of_builder p x s = native_builder p x s
native_of_group of_system p x s = native_system p x s
native_of_group of_stream p x s = native_print p x s
native_of_group of_files p x s = native_files p x s
native_of_group of_env p x s = native_env p x s
native_of_group of_throwable p x s = native_throwable p x s

-- the row of a built-in method
unfoldable pub row_native : Program → Native → Working → Access (Answer Working)
row_native p x s = native_of_group (native_group x) p x s
