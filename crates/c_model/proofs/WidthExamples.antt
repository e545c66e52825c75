-- The widths of programs that are computed in other files.
use Rattle.std.specs.Prelude.{◌≡◌, refl}
use Rattle.c_check.specs.Acts.{acts, each, outside_acts, statements}
use Rattle.c_check.specs.Checked.{after_all}
use Rattle.c_check.specs.Clauses.{inside_acts}
use Rattle.c_check.specs.Constructs.{loops_in, mention, unlisted_in}
use Rattle.c_check.specs.Declarations.{find, still_in_scope}
use Rattle.c_check.specs.Here.{after}
use Rattle.c_check.specs.NameLists.{child_count, names}
use Rattle.c_check.specs.Once.{is_among, with_each}
use Rattle.c_check.specs.Seen.{slot_in, slots_copied}
use Rattle.c_check.specs.Shares.{copies_around, shared_by_rule}
use Rattle.c_check.specs.Statements.{statement_of}
use Rattle.c_model.specs.Cells.{with_declarators}
use Rattle.c_model.specs.Clauses.{clauses_among, listed_among}
use Rattle.c_model.specs.Parts.{flat_declarations, trees_in}
use Rattle.c_model.specs.Program.{variables_among}
use Rattle.c_model.specs.Width.{inner_names, most_of_functions, width}
use Rattle.c_model.proofs.Examples.{endless, looping, sharing}
use Rattle.c_model.proofs.Tasks.{creating}
use Rattle.c_model.proofs.Watching.{children}

-- main's i and s, and one for its loop
looping-width : width looping ≡ 3
unfolding inner_names most_of_functions variables_among with_declarators flat_declarations trees_in clauses_among listed_among children
looping-width = refl

-- a parameter, however many calls are open
endless-width : width endless ≡ 1
unfolding inner_names most_of_functions variables_among with_declarators flat_declarations trees_in clauses_among listed_among children
endless-width = refl

-- the file's s, main's i, the loop's directive with its variable and a copy of s, and one for the loop inside it
sharing-width : width sharing ≡ 5
unfolding inner_names most_of_functions variables_among with_declarators flat_declarations trees_in clauses_among listed_among children
sharing-width = refl

-- main's y and x, and the task's x with one for its directive
creating-width : width creating ≡ 4
unfolding inner_names most_of_functions variables_among with_declarators flat_declarations trees_in clauses_among listed_among children statement_of after_all after acts each find still_in_scope names child_count outside_acts inside_acts statements mention is_among with_each slot_in slots_copied copies_around shared_by_rule unlisted_in loops_in
creating-width = refl
