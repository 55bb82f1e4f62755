pub mod RangeLaws
pub mod RefusalLaws
