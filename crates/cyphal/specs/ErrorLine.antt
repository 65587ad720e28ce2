-- The line that is written of a status.
use Rattle.std.specs.Prelude.{ℕ, List, [], ◌∷◌, ◌++◌, codes, decimal}
use Rattle.type_versions.specs.Lines.{compat_why_text}
use Rattle.dsdl_names.specs.declared.NameError.{NameError}
use Rattle.dsdl_names.specs.declared.NameError.TheVariants as name_error
use Rattle.dsdl_resolve.specs.declared.why.DsdlWhy.{DsdlWhy}
use Rattle.dsdl_names.specs.declared.TypeId.{TypeId}
use Rattle.dsdl_resolve.specs.declared.why.DsdlWhy.TheVariants as dsdl_why
use Rattle.dsdl_resolve.specs.declared.why.ExprWhy.{ExprWhy}
use Rattle.dsdl_resolve.specs.declared.why.ExprWhy.TheVariants as expr_why
use Rattle.dsdl_types.specs.declared.read_why.ReadWhy.{ReadWhy}
use Rattle.dsdl_types.specs.declared.read_why.ReadWhy.TheVariants as read_why
use Rattle.node_plan.specs.declared.plan.PlanWhy.{PlanWhy}
use Rattle.node_plan.specs.declared.plan.PlanWhy.TheVariants as plan_why
use Rattle.frame_log.specs.declared.error.LogWhy.{LogWhy}
use Rattle.frame_log.specs.declared.error.LogWhy.TheVariants as log_why
use Rattle.node_run.specs.declared.status.Status.{Status}
use Rattle.node_run.specs.declared.status.Status.TheVariants as status

abbrev pub plan_why_text : PlanWhy → List ℕ
plan_why_text plan_why.Line = codes "Line"
plan_why_text plan_why.UnknownType = codes "UnknownType"
plan_why_text plan_why.Repeated = codes "Repeated"
plan_why_text plan_why.Range = codes "Range"

abbrev pub log_why_text : LogWhy → List ℕ
log_why_text log_why.BadLine = codes "BadLine"
log_why_text log_why.TimeBack = codes "TimeBack"
log_why_text log_why.UnknownBus = codes "UnknownBus"
log_why_text log_why.TooFar = codes "TooFar"

abbrev pub read_why_word : ReadWhy → List ℕ
read_why_word (read_why.BadTag n) = codes "BadTag "
read_why_word (read_why.BadLength n) = codes "BadLength "
read_why_word (read_why.BadDelimiter n) = codes "BadDelimiter "

abbrev pub read_why_number : ReadWhy → ℕ
read_why_number (read_why.BadTag n) = n
read_why_number (read_why.BadLength n) = n
read_why_number (read_why.BadDelimiter n) = n

-- that memory was wanted is no cause of a refused name
abbrev pub name_error_text : NameError → List ℕ
name_error_text name_error.BadName = codes "BadName"
name_error_text name_error.Reserved = codes "Reserved"
name_error_text name_error.BadVersion = codes "BadVersion"
name_error_text name_error.BadPort = codes "BadPort"
name_error_text name_error.TooLong = codes "TooLong"
name_error_text name_error.NoMemory = codes "NoMemory"

abbrev pub expr_why_text : ExprWhy → List ℕ
expr_why_text expr_why.Kind = codes "Kind"
expr_why_text expr_why.Range = codes "Range"
expr_why_text expr_why.Zero = codes "Zero"
expr_why_text expr_why.Unknown = codes "Unknown"
expr_why_text expr_why.Large = codes "Large"

-- a type by its dotted name and its version
abbrev pub type_text : TypeId → List ℕ
type_text id =
    id.name ++ (codes "." ++ (decimal id.major ++ (codes "." ++ decimal id.minor)))

abbrev pub dsdl_why_text : DsdlWhy → List ℕ
dsdl_why_text (dsdl_why.Name error) = codes "Name " ++ name_error_text error
dsdl_why_text dsdl_why.Syntax = codes "Syntax"
dsdl_why_text (dsdl_why.Unresolved id) = codes "Unresolved " ++ type_text id
dsdl_why_text dsdl_why.Cycle = codes "Cycle"
dsdl_why_text (dsdl_why.Rule n) = codes "Rule " ++ decimal n
dsdl_why_text (dsdl_why.Expr why) = codes "Expr " ++ expr_why_text why
dsdl_why_text dsdl_why.Assert = codes "Assert"
dsdl_why_text dsdl_why.VersionClash = codes "VersionClash"
dsdl_why_text dsdl_why.PortClash = codes "PortClash"
dsdl_why_text (dsdl_why.Long n) = codes "Long " ++ decimal n
dsdl_why_text dsdl_why.TooBig = codes "TooBig"

-- a line of a DSDL file, and why it is refused
abbrev pub in_file : List ℕ → ℕ → List ℕ → List ℕ
in_file file n why =
    codes "cyphal: " ++ (file ++ (codes ":" ++ (decimal n ++ (codes ": " ++ (why ++ 10 ∷ [])))))

-- a line of an input, and why it is refused
abbrev pub numbered : List ℕ → ℕ → List ℕ → List ℕ
numbered head n why = head ++ (decimal n ++ (codes ": " ++ (why ++ 10 ∷ [])))

-- a line of the input whose bytes can't be read, where, why, and the number that was read
abbrev pub unreadable : ℕ → List ℕ → List ℕ → ℕ → List ℕ
unreadable n path why number =
    codes "cyphal: line "
    ++ (decimal n
    ++ (codes ": "
    ++ (why ++ (decimal number ++ (codes " at " ++ (path ++ 10 ∷ []))))))

-- where a type isn't newer, and why
abbrev pub not_newer : List ℕ → List ℕ → List ℕ
not_newer path why = codes "cyphal: not newer at " ++ (path ++ (codes ": " ++ (why ++ 10 ∷ [])))

-- a file, folder or type that isn't there
abbrev pub missing : List ℕ → List ℕ
missing path = codes "cyphal: not found: " ++ (path ++ 10 ∷ [])

abbrev pub error_line : Status → List ℕ
error_line status.Ok = []
error_line status.Usage = codes "cyphal: usage\n"
error_line (status.Dsdl file n why) = in_file file n (dsdl_why_text why)
error_line (status.Plan n why) = numbered (codes "cyphal: plan line ") n (plan_why_text why)
error_line (status.Log n why) = numbered (codes "cyphal: log line ") n (log_why_text why)
error_line (status.Text n) = numbered (codes "cyphal: line ") n (codes "no value")
error_line (status.Unreadable n path why) =
    unreadable n path (read_why_word why) (read_why_number why)
error_line (status.NotNewer path why) = not_newer path (compat_why_text why)
error_line status.LogLong = codes "cyphal: input too long\n"
error_line (status.NoFile path) = missing path
error_line status.ReadFault = codes "cyphal: read fault\n"
error_line status.WriteFault = codes "cyphal: write fault\n"
error_line status.NoMemory = codes "cyphal: out of memory\n"

-- the number with which the program ends
abbrev pub code_of : Status → ℕ
code_of status.Ok = 0
code_of status.Usage = 1
code_of (status.Dsdl file n why) = 2
code_of (status.Plan n why) = 3
code_of (status.Log n why) = 4
code_of (status.Text n) = 5
code_of (status.Unreadable n path why) = 6
code_of (status.NotNewer path why) = 7
code_of status.ReadFault = 8
code_of status.WriteFault = 9
code_of status.NoMemory = 10
code_of status.LogLong = 11
code_of (status.NoFile path) = 12
