-- The words that are out of the language: those of C, of directives, and of clauses and kinds. Where one stands at a fault, it gives the fault its number.
use Rattle.std.specs.Prelude.{ℕ, Bool, false, ◌||◌, ◌&&◌, not, nat_eq, List, [], ◌∷◌, codes}
use Rattle.std.specs.List.{starts_with}
use Rattle.c_syntax.specs.declared.head.Head.{Head}
use Rattle.c_syntax.specs.declared.head.Head.TheVariants as head
use Rattle.c_syntax.specs.language.Words.{same_bytes}

-- the words of C that no program has
abbrev pub c_words : List (List ℕ)
c_words =
    codes "char" ∷ codes "float" ∷ codes "double" ∷ codes "long" ∷ codes "short" ∷ codes "unsigned" ∷ codes "signed" ∷ codes "struct"
    ∷ codes "union" ∷ codes "enum" ∷ codes "typedef" ∷ codes "static" ∷ codes "const" ∷ codes "volatile" ∷ codes "extern"
    ∷ codes "register" ∷ codes "auto" ∷ codes "goto" ∷ codes "switch" ∷ codes "case" ∷ codes "default" ∷ codes "break"
    ∷ codes "continue" ∷ codes "do" ∷ codes "sizeof" ∷ codes "inline" ∷ []

-- the words of directives that no program has. They count where a directive should stand
abbrev pub directive_words : List (List ℕ)
directive_words =
    codes "target" ∷ codes "teams" ∷ codes "distribute" ∷ codes "simd" ∷ codes "taskloop" ∷ codes "taskgroup" ∷ codes "taskyield"
    ∷ codes "ordered" ∷ codes "atomic" ∷ codes "flush" ∷ codes "scan" ∷ codes "scope" ∷ codes "loop" ∷ codes "cancel"
    ∷ codes "cancellation" ∷ codes "error" ∷ codes "declare" ∷ codes "threadprivate" ∷ []

-- the words of clauses and kinds that no program has there. They count where a clause or a kind should stand
abbrev pub clause_words : List (List ℕ)
clause_words =
    codes "if" ∷ codes "lastprivate" ∷ codes "linear" ∷ codes "collapse" ∷ codes "copyin" ∷ codes "copyprivate" ∷ codes "proc_bind"
    ∷ codes "allocate" ∷ codes "order" ∷ codes "ordered" ∷ codes "hint" ∷ codes "filter" ∷ codes "untied" ∷ codes "final"
    ∷ codes "mergeable" ∷ codes "depend" ∷ codes "priority" ∷ codes "affinity" ∷ codes "in_reduction" ∷ codes "detach"
    ∷ codes "runtime" ∷ codes "auto" ∷ []

-- the words of the language that begin with `omp_`
abbrev pub omp_words : List (List ℕ)
omp_words =
    codes "omp_lock_t" ∷ codes "omp_init_lock" ∷ codes "omp_destroy_lock" ∷ codes "omp_set_lock" ∷ codes "omp_unset_lock"
    ∷ codes "omp_test_lock" ∷ codes "omp_get_thread_num" ∷ codes "omp_get_num_threads" ∷ codes "omp_get_max_threads" ∷ []

-- whether these bytes are one of the words
abbrev pub is_one_of : List (List ℕ) → List ℕ → Bool
is_one_of [] bytes = false
is_one_of (word ∷ words) bytes = same_bytes word bytes || is_one_of words bytes

-- a name that begins with `omp_` and is no word of the language
abbrev pub is_other_omp : List ℕ → Bool
is_other_omp bytes = starts_with nat_eq bytes (codes "omp_") && not (is_one_of omp_words bytes)

-- a name that is out of the language wherever it stands
abbrev pub is_out_everywhere : List ℕ → Bool
is_out_everywhere bytes = is_one_of c_words bytes || is_other_omp bytes

-- a name that is out of the language where words leave off so
abbrev pub is_out_at : Head → List ℕ → Bool
is_out_at head.Directive bytes = is_out_everywhere bytes || is_one_of directive_words bytes
is_out_at head.Clause bytes = is_out_everywhere bytes || is_one_of clause_words bytes
is_out_at head.Kind bytes = is_out_everywhere bytes || is_one_of clause_words bytes
is_out_at other bytes = is_out_everywhere bytes
