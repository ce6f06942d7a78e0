use Rattle.dep_record.proofs.AppendLaws.{three_appended}
use Rattle.dep_record.proofs.record_text.push_files.Goals as goal

pub returns : goal.returns
returns c = three_appended _ _ _ _ _ _ _ c.in_ok-push_hash_line.ensures (rw c.len.ensures at c.in_ok-push_number_line.ensures) (rw c.as_slice.ensures at c.in_ok-push_class_lines.ensures)
