-- Rewriting modulo equations (Baader and Nipkow, Term Rewriting and All That, sections 2.1 and 3.1; Genet and Rusu, JSC 2010): steps and chains of the rules, and of the equations read in both directions.
use Rattle.std.specs.Prelude.{ℕ, List, [], ◌∷◌, ◌++◌}
use Rattle.std.specs.List.{AllZip, Contains}
use Rattle.ranked_terms.specs.Terms.{node, instance_of}
use Rattle.ranked_terms.specs.declared.term.Term.{Term}
use Rattle.trs_rules.specs.Rules.{RewriteRule, RewriteEquation}
use Rattle.trs_rules.specs.Steps.{Step, Leads}

-- an equation read from left to right, and from right to left, with one substitution for the variables of both sides
abbrev pub onwards : RewriteEquation → RewriteRule
onwards e = record { left = e.left; right = e.right; vars = e.vars }

abbrev pub backwards : RewriteEquation → RewriteRule
backwards e = record { left = e.right; right = e.left; vars = e.vars }

-- each equation in both directions
abbrev pub both_ways : List RewriteEquation → List RewriteRule
both_ways [] = []
both_ways (e ∷ E) = onwards e ∷ backwards e ∷ both_ways E

-- one step by a rule, or by an equation in either direction
abbrev pub StepModulo : List RewriteRule → List RewriteEquation → Term → Term → Type 0
StepModulo R E = Step (R ++ both_ways E)

-- such steps, any number of them
abbrev pub Modulo : List RewriteRule → List RewriteEquation → Term → Term → Type 0
Modulo R E = Leads (R ++ both_ways E)

-- steps by equations alone, any number of them
abbrev pub EqualModulo : List RewriteEquation → Term → Term → Type 0
EqualModulo E = Leads (both_ways E)

-- ---- laws

-- where each argument leads to the one at its place, the term leads to the term
abbrev pub ArgumentsLead : Type 0
ArgumentsLead = (R : List RewriteRule) (f : ℕ) (ss ts : List Term) → AllZip (Leads R) ss ts → Leads R (node f ss) (node f ts)

-- both sides of an equation are equal, whatever terms its variables stand for
abbrev pub SidesAreEqual : Type 0
SidesAreEqual = (E : List RewriteEquation) (e : RewriteEquation) (θ : ℕ → Term) → Contains E e → EqualModulo E (instance_of θ e.left) (instance_of θ e.right)

-- what is equal to a term, the term is equal to
abbrev pub EqualIsSymmetric : Type 0
EqualIsSymmetric = (E : List RewriteEquation) (s t : Term) → EqualModulo E s t → EqualModulo E t s

-- equal terms and chains of the rules alone are chains modulo the equations
abbrev pub EqualIsModulo : Type 0
EqualIsModulo = (R : List RewriteRule) (E : List RewriteEquation) (s t : Term) → EqualModulo E s t → Modulo R E s t

abbrev pub LeadsIsModulo : Type 0
LeadsIsModulo = (R : List RewriteRule) (E : List RewriteEquation) (s t : Term) → Leads R s t → Modulo R E s t
