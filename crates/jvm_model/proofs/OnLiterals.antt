-- What the computation of a whole run unfolds, by one name.
use Rattle.std.specs.Prelude.{⊤}
use Rattle.jvm_model.specs.Library.{builtin_classes, builtin_fields, builtin_methods, builtin_defs}
use Rattle.jvm_model.specs.Classes.{class_bound, own_interfaces, is_below, implements, default_interfaces, is_trivial, layout, blank, form_at, next_place}
use Rattle.jvm_model.specs.{Descriptors.parameters, Descriptors.return_type, Narrow.narrow, Throwing.throws, Raising.row_raise, Raising.handler_for}
use Rattle.jvm_model.specs.Suite.{opening, tree, one_test, runs, suite_fault, suite_limit}
use Rattle.jvm_model.specs.{Step.step, Step.row, Step.row_here, Step.row_throw, Initialise.row_finish, Initialise.row_fail, Initialise.parts_of}
use Rattle.jvm_model.specs.{Rows.begin, RowsMoves.row_moves, RowsArith.row_arith, RowsBranches.row_branches, RowsBranches.lookup_target, RowsFields.row_fields}
use Rattle.jvm_model.specs.RowsStatics.{row_statics, read_static, write_static}
use Rattle.jvm_model.specs.RowsCreate.{row_create, new_object, nest, children, nest_cost}
use Rattle.jvm_model.specs.RowsCalls.{row_calls, calls, argument_count}
use Rattle.jvm_model.specs.{RowsReturn.row_return, RowsReturn.hands_on, Natives.row_native, NativesObject.native_object, NativesObject.native_throwable}
use Rattle.jvm_model.specs.Selection.{kept_method, select, select_virtual, select_interface, select_special}
use Rattle.jvm_model.specs.NativesString.{native_string, native_builder, hash_of}
use Rattle.jvm_model.specs.NativesOutside.{native_system, native_print, native_files, native_env}
use Rattle.jvm_model.specs.Driver.{drive, drives, drive_first, drive_init, drive_set_up, drive_method, drive_tear_down, judge}
use Rattle.std.specs.{Fmt.digits, Char.Utf16.utf16_chars, Int.int_wrap}
use Rattle.et_base.specs.Numbers.{add64, add32, l2i, i2c}
use lib.Utf8.{encode}
use Rattle.jvm_model.specs.{RowsArrays.row_arrays, RowsCasts.row_casts, Kinds.kind_fits, Kinds.class_fits}

-- what a proof unfolds to compute the runs of a suite that is written out
unfoldable pub machine_on_literals : ⊤
unfolding builtin_classes builtin_fields builtin_methods builtin_defs class_bound own_interfaces
    is_below implements default_interfaces is_trivial layout blank form_at next_place parameters
    return_type narrow opening tree one_test runs step row row_here row_throw throws row_raise
    handler_for row_finish row_fail parts_of begin row_moves row_arith row_branches row_statics
    read_static write_static row_fields row_create new_object row_calls calls argument_count
    row_return hands_on kept_method select select_virtual select_interface select_special row_native
    native_object native_throwable native_string native_builder native_system native_print
    native_files native_env drive drives drive_first drive_init drive_set_up drive_method
    drive_tear_down judge digits add64 utf16_chars encode add32 int_wrap lookup_target hash_of nest
    children nest_cost row_arrays row_casts kind_fits class_fits l2i i2c suite_fault suite_limit
machine_on_literals = tt
