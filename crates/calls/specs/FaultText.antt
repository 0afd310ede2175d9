-- How a fault of an input text is reported. This project's own.
use Rattle.std.specs.Prelude.{ℕ, List, [], ◌∷◌, ◌++◌, codes}
use Rattle.std.specs.Fmt.{decimal}
use Rattle.spec_text.specs.declared.fault.SpecFault.{SpecFault}
use Rattle.spec_text.specs.declared.fault.SpecKind.{SpecKind}
use Rattle.spec_text.specs.declared.fault.SpecKind.TheVariants as kind
use Rattle.spec_text.specs.declared.fault.LimitName.{LimitName}
use Rattle.spec_text.specs.declared.fault.LimitName.TheVariants as limit
use Rattle.spec_text.specs.Limits.{most}
use Rattle.cert_text.specs.declared.certificate.CertFault.{CertFault}
use Rattle.cert_text.specs.declared.certificate.CertKind.{CertKind}
use Rattle.cert_text.specs.declared.certificate.CertKind.TheVariants as wrong

abbrev pub limit_name : LimitName → List ℕ
limit_name limit.NameBytes = codes "name-bytes"
limit_name limit.Symbols = codes "symbols"
limit_name limit.Declared = codes "declared"
limit_name limit.Arity = codes "arity"
limit_name limit.Nesting = codes "nesting"
limit_name limit.Variables = codes "variables"
limit_name limit.Rules = codes "rules"
limit_name limit.Equations = codes "equations"
limit_name limit.Entries = codes "entries"
limit_name limit.States = codes "states"
limit_name limit.Automata = codes "automata"
limit_name limit.Systems = codes "systems"
limit_name limit.EquationSections = codes "equation-sections"
limit_name limit.Approximations = codes "approximations"

-- the name of a kind, and of a limit with its number
abbrev pub kind_text : SpecKind → List ℕ
kind_text kind.BadByte = codes "BadByte"
kind_text kind.OpenComment = codes "OpenComment"
kind_text kind.OpenText = codes "OpenText"
kind_text kind.UnknownSection = codes "UnknownSection"
kind_text kind.NoInitial = codes "NoInitial"
kind_text kind.WrongArity = codes "WrongArity"
kind_text kind.Expected = codes "Expected"
kind_text (kind.Limit name) = codes "Limit " ++ (limit_name name ++ 32 ∷ decimal (most name))
kind_text kind.UnknownName = codes "UnknownName"
kind_text kind.DoubleName = codes "DoubleName"
kind_text kind.VariableLeft = codes "VariableLeft"
kind_text kind.NotLeftLinear = codes "NotLeftLinear"
kind_text kind.FreeVariable = codes "FreeVariable"

-- the line for a fault of a specification
abbrev pub fault_line : SpecFault → List ℕ
fault_line f = codes "Bad specification line " ++ (decimal f.line ++ (codes " column " ++ (decimal f.column ++ (codes ": " ++ (kind_text f.kind ++ 10 ∷ [])))))

-- the name of what is wrong with a line of a certificate
abbrev pub cert_kind_text : CertKind → List ℕ
cert_kind_text wrong.Head = codes "Head"
cert_kind_text wrong.NoClaim = codes "NoClaim"
cert_kind_text wrong.Line = codes "Line"
cert_kind_text wrong.Symbol = codes "Symbol"
cert_kind_text wrong.Count = codes "Count"
cert_kind_text wrong.State = codes "State"
cert_kind_text wrong.Order = codes "Order"

-- the line for a fault of a certificate
abbrev pub cert_fault_line : CertFault → List ℕ
cert_fault_line f = codes "Bad certificate line " ++ (decimal f.line ++ (codes ": " ++ (cert_kind_text f.kind ++ 10 ∷ [])))
