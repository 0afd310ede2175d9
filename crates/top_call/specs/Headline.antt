-- What the answers `unreachable` and `reachable` show (Feuillade, Genet and Viet Triem Tong, JAR 2004).
use Rattle.std.specs.Prelude.{◌≡◌, ℕ, ◌≤◌, Bool, List, Option, Some, length}
use Rattle.std.specs.Io.KnownBytes.{Appends}
use Rattle.trs_rules.specs.declared.derivation.Derivation.{Derivation}
use Rattle.ta_core.specs.TreeAutomaton.{TreeAutomaton}
use Rattle.ta_core.specs.Reachability.{Replays}
use Rattle.ta_core.specs.declared.spec.Spec.{Spec}
use Rattle.spec_text.specs.SpecText.{SpecText}
use Rattle.command_words.specs.Words.{Limits, complete, command_of}
use Rattle.cert_text.specs.Certificates.{CertificateReads}
use Rattle.cert_text.specs.declared.certificate.Certificate.{Certificate}
use Rattle.cert_text.specs.declared.certificate.Certificate.TheVariants as certificate
use Rattle.verdicts.specs.Shown.{IsSafe}
use Rattle.calls.specs.Contents.{spec_limit, cert_limit}
use Rattle.calls.specs.Files.{Text, Told, IsRead}
use Rattle.calls.specs.declared.status.Status.TheVariants.{Accepted}
use Rattle.top_call.specs.Named.{NamedByCertificate, accepted_text}

-- The words are `complete FILE`, the whole file spells this specification, and the bytes written are this certificate beside it. `check` accepts them, where they are
-- no more than it reads.
pub record Certifies (words : List Text) (a b : Told) (old new : Option Text) (spec : Spec) (c : Certificate) : Type 0 where
  pub file : Text
  pub limits : Limits
  pub command : command_of words ≡ Some (complete file limits)
  pub bytes : Text
  pub read : IsRead file spec_limit a b bytes
  pub spells : SpecText bytes spec
  pub text : Text
  pub written : Appends old new text
  pub certificate : CertificateReads spec text c
  pub accepted : (name : Text) → length text ≤ cert_limit → NamedByCertificate spec name text (accepted_text c) Accepted

-- The bytes written spell an automaton that contains the initial one, is closed under the rules and misses the forbidden language. So it accepts each term that is
-- reachable, in whatever number of steps, and no such term is forbidden.
pub record ShowsUnreachable (words : List Text) (a b : Told) (old new : Option Text) : Type 0 where
  pub spec : Spec
  pub rounds : ℕ
  pub precise : Bool
  pub automaton : TreeAutomaton
  pub places : List ℕ
  pub certifies : Certifies words a b old new spec (certificate.Unreachable rounds precise automaton places)
  pub safe : IsSafe spec automaton places

-- the bytes written spell a derivation from a term of the initial language to a forbidden one
pub record ShowsReachable (words : List Text) (a b : Told) (old new : Option Text) : Type 0 where
  pub spec : Spec
  pub derivation : Derivation
  pub certifies : Certifies words a b old new spec (certificate.Reachable derivation)
  pub replays : Replays spec derivation
