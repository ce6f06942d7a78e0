-- What methods do with a name, and perhaps a text: the parts of their rows.
use Rattle.std.specs.Prelude.{ℕ, List, ◌∷◌, ◌++◌, length, ◌+◌, is_some, Option, Some, None}
use Rattle.jvm_model.specs.{declared.values.Value.Value, World.text_or_empty, Rows.on_text, Access.read, Access.write, Access.spend}
use Rattle.jvm_model.specs.declared.values.Location.TheVariants as place
use Rattle.jvm_model.specs.NativesOutside.{one_text, two_texts, changes_property}
use Rattle.jvm_model.specs.Working.{Working, operands, with_operands, answers, answers_found, truth}
use Rattle.vm_mem.specs.Refines.{Row}
use Rattle.vm_natives.specs.Rows.{costly_row}
use Rattle.vm_natives.specs.declared.named.{Named.Named, Change.Change}
use Rattle.vm_natives.specs.declared.named.Named.TheVariants.{GetProperty, ClearProperty, ReadFile, DeleteFile, FileExists, Given}
use Rattle.vm_natives.specs.declared.named.Change.TheVariants.{SetProperty, WriteFile, AppendFile}

-- the text of a property, of a file
abbrev pub property_row : List ℕ → Row Working
property_row name p s = read (place.Prop name) (λ c. answers_found p s (operands s) (length name) c)

abbrev pub file_row : List ℕ → Row Working
file_row name p s = read (place.File name) (λ c. answers_found p s (operands s) (length name) c)

-- a property is set or taken away; n units are written
abbrev pub property_change_row : List ℕ → Option (List ℕ) → ℕ → Row Working
property_change_row name t n p s = read (place.Prop name) (λ c. changes_property p s (operands s) name n t c)

-- a file has this text, at this cost
abbrev pub put_row : ℕ → List ℕ → List ℕ → Row Working
put_row n name t p s = spend n (write (place.File name) (Some t) (answers p s (operands s)))

abbrev pub append_row : List ℕ → List ℕ → Row Working
append_row name t p s = read (place.File name) (λ c. put_row (length name + length t) name (text_or_empty c ++ t) p s)

-- a file is taken away; whether there was one is answered
abbrev pub delete_row : List ℕ → Row Working
delete_row name p s = read (place.File name) (λ c. spend (length name) (write (place.File name) None (answers p s (truth (is_some c) ∷ operands s))))

abbrev pub exists_row : List ℕ → Row Working
exists_row name p s = read (place.File name) (λ c. costly_row (length name) (truth (is_some c)) p s)

-- what is done with a name and a text
unfoldable pub change_row : Change → List ℕ → List ℕ → Row Working
change_row SetProperty name t p s = property_change_row name (Some t) (length t) p s
change_row WriteFile name t p s = put_row (length name + length t) name t p s
change_row AppendFile name t p s = append_row name t p s

-- the same with the text of a String
abbrev pub given_row : Change → List ℕ → Value → Row Working
given_row d name v p s = on_text p s v (λ t. change_row d name t p s)

-- what is done with a name
unfoldable pub name_row : Named → List ℕ → Row Working
name_row GetProperty name p s = property_row name p s
name_row ClearProperty name p s = property_change_row name None 0 p s
name_row ReadFile name p s = file_row name p s
name_row DeleteFile name p s = delete_row name p s
name_row FileExists name p s = exists_row name p s
name_row (Given d v) name p s = given_row d name v p s

-- a method that is given a name, or a name and a text
abbrev pub named_row : Named → Row Working
named_row d p s = one_text p s (λ name vs. name_row d name p (with_operands s vs))

abbrev pub texts_row : Change → Row Working
texts_row d p s = two_texts p s (λ name t vs. change_row d name t p (with_operands s vs))
