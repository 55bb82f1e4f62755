-- Laws of the calls.
pub mod RecordCallLaws
