pub mod BitLemmas
pub mod ByteLemmas
pub mod FieldLemmas
pub mod JoinedLemmas
pub mod MaskLemmas
pub mod NumberLemmas
pub mod PrefixLemmas
pub mod WordLemmas
