use Rattle.vm_tables.proofs.tables.Tables.of.Goals as goal

pub invariant_of-result : goal.invariant_of-result
invariant_of-result c = record {
  numbers = c.in_ok-numbers.ensures.numbers;
  nexts = c.in_ok-numbers.ensures.nexts;
  cells = c.in_ok-numbers.ensures.cells;
  units = c.in_ok-numbers.ensures.units;
  methods = c.in_ok-numbers.ensures.methods;
  defaults = c.in_ok-defaults.ensures;
  trivial = c.in_ok-trivial.ensures;
  parts = c.in_ok-parts.ensures;
  hierarchy = c.in_ok-hierarchy.ensures;
}
