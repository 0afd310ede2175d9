-- A text has one certificate or one first fault.
pub mod OneFault
pub mod OneCertificate
pub mod NoFault
pub mod OneAnswer
