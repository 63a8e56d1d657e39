pub mod Charge
pub use Charge.{most_parcels, joined, Emissions}
unfoldable pub use Charge.{faults_among, cases, emitted_of, total_of, answer_of, emissions_of}
