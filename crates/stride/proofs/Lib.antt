pub mod RuleProofs
