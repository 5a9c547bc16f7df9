mod ChoiceLaws
mod OpeningLaws
mod RefusedLaws
mod LeastLaws
mod BlockLaws
pub mod WritingLemmas
pub mod RecordLemmas
pub mod RoundLemmas
pub mod ChangeLemmas
pub mod ZoneLemmas
pub mod FreshLemmas
pub mod GrantLemmas
pub mod RootLemmas
