-- How the code writes numbers and arguments. This serves the contracts of private functions and the proofs.
use Rattle.std.specs.Prelude.{ℕ, List, [], ◌∷◌, Option, Some, None}
use Rattle.std.specs.Fmt.{decimal}
use Rattle.ompt_calls.specs.declared.argument.Argument.{Argument}
use Rattle.ompt_calls.specs.declared.argument.Argument.TheVariants.{Short, Long}
use Rattle.ompt_calls.specs.Line.{argument_text, place_text}
use Rattle.trace_format.specs.declared.kind.Kind.{Kind}
use Rattle.trace_format.specs.declared.kind.Kind.TheVariants as kind
use Rattle.trace_view.specs.declared.named_call.Naming.{Naming}
use Rattle.trace_view.specs.declared.named_call.Naming.TheVariants.{Plain, Place, Named}
use Rattle.trace_view.specs.declared.number_names.Enumeration.{Enumeration}
use Rattle.trace_view.specs.declared.number_names.Enumeration.TheVariants.{ThreadKind, Endpoint, SyncKind, MutexKind, WorkKind, DispatchKind, TaskStatus, TaskFlags, RegionFlags, State, Ending}
use Rattle.trace_view.specs.Names.{dispatch_kind_text, ending_text, endpoint_text, mutex_kind_text, region_flags_text, state_text, sync_kind_text, task_flags_text, task_status_text, thread_kind_text, work_kind_text}

-- a number as a value of an enumeration
abbrev pub number_text : Enumeration → ℕ → List ℕ
number_text ThreadKind n = thread_kind_text n
number_text Endpoint n = endpoint_text n
number_text SyncKind n = sync_kind_text n
number_text MutexKind n = mutex_kind_text n
number_text WorkKind n = work_kind_text n
number_text DispatchKind n = dispatch_kind_text n
number_text TaskStatus n = task_status_text n
number_text TaskFlags n = task_flags_text n
number_text RegionFlags n = region_flags_text n
number_text State n = state_text n
number_text Ending n = ending_text n

-- the name of a number, or the number itself where there is none
abbrev pub name_text : Option (List ℕ) → ℕ → List ℕ
name_text None n = decimal n
name_text (Some name) n = name

-- an argument that is written so
abbrev pub named_argument : Naming → Argument → List ℕ
named_argument Place (Long place) = place_text place
named_argument (Named enumeration) (Short number) = number_text enumeration number
named_argument naming argument = argument_text argument

-- how an argument of the kind is written
abbrev pub naming_of : Kind → Naming
naming_of kind.Place = Place
naming_of kind.OfThread = Named ThreadKind
naming_of kind.Endpoint = Named Endpoint
naming_of kind.OfSync = Named SyncKind
naming_of kind.OfMutex = Named MutexKind
naming_of kind.OfRelease = Named MutexKind
naming_of kind.OfLock = Named MutexKind
naming_of kind.OfWork = Named WorkKind
naming_of kind.OfDispatch = Named DispatchKind
naming_of kind.Status = Named TaskStatus
naming_of kind.ParallelFlags = Named RegionFlags
naming_of kind.TaskFlags = Named TaskFlags
naming_of kind.ImplicitFlags = Named TaskFlags
naming_of other = Plain

-- each of these arguments, by its kind
abbrev pub each_named : List Kind → List Argument → List (List ℕ)
each_named [] arguments = []
each_named (which ∷ kinds) [] = []
each_named (which ∷ kinds) (argument ∷ arguments) = named_argument (naming_of which) argument ∷ each_named kinds arguments
