pub mod Parcels
pub use declared.Amiss.{Amiss}
pub use declared.Faults.{Faults}
pub use declared.Parcel.{Parcel}
pub use Parcels.{own_clearing, earlier_of, clears_bare, off_years, out_of_years, misordered}
unfoldable pub use Parcels.{counted_of, amiss_of, faults_of}
